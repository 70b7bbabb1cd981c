-- Every case of the table holds: what the model computes for the whole table is what the table says, by one computation.
use mathlib.Core.Path.{◌≡◌, refl, sym, ap, subst, ◌∙◌}
use mathlib.Core.Option.{Option, none, some, some-injective, none-ne-some}
use mathlib.Core.List.{List, [], ◌∷◌, map, Memᴰ, head-eq_of_cons-eq, tail-eq_of_cons-eq}
use Prim.Native.Nat.{ℕ}
use native.Mathlib.Decide.{ℕ_discrete, dec_le, dec_lt}
use native.Mathlib.Omega.{arith}
use Rattle.nodes.specs.Layout.{standing}
use Rattle.nodes.specs.declared.Node.{Node}
use Rattle.types.specs.Answers.{Numbers, numbers}
use Rattle.types.specs.Runs.{Runs}
use Rattle.combinators.specs.Entered.{entered}
use Rattle.types.specs.declared.Answer.{Answer}
use Rattle.types.proofs.Once.{runs_once}
use Rattle.typing.specs.Listing.{listing}
use Rattle.cases.specs.Cases.{Case, table, last_of, Holds, AllHold}
use Rattle.cases.proofs.Whatever.{and_then}
use Rattle.cases.proofs.Model.{Ran, model, model_meets_the_relations}

-- no case keeps or is offered more than six nodes, each with at most eight entries, beside the 33 standing ones
abbrev rows : ℕ
rows = 81

-- more than any join and any walk of the table needs
abbrev fuel : ℕ
fuel = 64

-- the answers as document 01's numbers, and the last listing
abbrev Shown : Type 0
Shown = List Numbers × List ℕ

abbrev shown : Ran → Shown
shown r = (map numbers r.0, last_of r.1)

abbrev computed : Case → Option Shown
computed c = and_then (model rows fuel c.records) (λ r. some (shown r))

abbrev stated : Case → Option Shown
stated c = some (c.answers, c.listing)

-- the one computation
the_model_says_what_the_table_says : map computed table ≡ map stated table
unfolding table standing entered listing ℕ_discrete dec_le dec_lt
the_model_says_what_the_table_says = refl

-- where the model says what a case says, the case holds
holds : (c : Case) → computed c ≡ stated c → Holds c
holds c = go (model rows fuel c.records) refl
  where
    go : (o : Option Ran) → model rows fuel c.records ≡ o → and_then o (λ r. some (shown r)) ≡ stated c → Holds c
    go none is e = absurd (none-ne-some (c.answers, c.listing) e)
    go (some r) is e =
        let same = some-injective (shown r) (c.answers, c.listing) e in
        record {
          answers = r.0;
          listings = r.1;
          last = r.2.nodes;
          runs = model_meets_the_relations rows fuel (omega arith) (omega arith) c.records r is;
          answered = ap (λ (s : Shown). s.0) same;
          listed = ap (λ (s : Shown). s.1) same;
        }

all_hold : (cases : List Case) → map computed cases ≡ map stated cases → AllHold cases
all_hold [] e c h = elim h [ ]
all_hold (x ∷ cases) e c (Memᴰ.head is) = subst Holds (sym is) (holds x (head-eq_of_cons-eq e))
all_hold (x ∷ cases) e c (Memᴰ.tail m) = all_hold cases (tail-eq_of_cons-eq e) c m

-- the one statement
pub all_cases_hold : AllHold table
all_cases_hold = all_hold table the_model_says_what_the_table_says

-- and no run of a case is answered otherwise
pub no_case_is_answered_otherwise : (c : Case) → Memᴰ c table → {answers : List Answer} {listings : List (List ℕ)} {last : List Node} →
    Runs 1024 [] c.records answers listings last → (map numbers answers ≡ c.answers) × (last_of listings ≡ c.listing)
no_case_is_answered_otherwise c m r =
    let h = all_cases_hold c m in
    let same = runs_once r h.runs in
    (ap (map numbers) same.0 ∙ h.answered, ap last_of same.1 ∙ h.listed)
