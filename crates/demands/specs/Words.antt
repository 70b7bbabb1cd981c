-- The words of the demands, as short names for what the other crates define.
use Rattle.std.specs.Prelude.{◌≡◌, List, ℕ, suc, ◌*◌, ◌<◌, length, get_or, take, drop}
use Rattle.classes.specs.Forced.{Clash}
use Rattle.classes.specs.Count.{Classes}
use Rattle.typing.specs.Types.{Ty, Satisfies}
use Rattle.typing.specs.General.{Open, chosen, Principal}
use Rattle.typing.specs.Listing.{listing}
use Rattle.nodes.specs.Layout.{says, Proper, built, rules_of}
use Rattle.nodes.specs.declared.Node.{Node}
use Rattle.types.specs.Closings.{typed}
use Rattle.types.specs.Answers.{numbers, Below, offered, needs, rules_to}
use Rattle.types.specs.declared.Answer.{Answer}
use Rattle.headers.specs.Header.{count}
use Rattle.jobs.specs.Jobs.{place}

-- DEMAND 1. A refusal is a code other than 0
abbrev pub Refused : Answer → Type 0
Refused a = (numbers a).code ≡ 0 → ⊥

-- DEMAND 2. A node that is well formed, with room left and its children below it
pub record Admissible (most : ℕ) (kept : List Node) (n : Node) : Type 0 where
  pub proper : Proper n
  pub room : length kept < most
  pub below : Below (length kept) n

module _ (kept : List Node) (n : Node) where
  -- the rules so far, its own included, force two different kinds to be equal
  abbrev pub ForcesClash : Type 0
  ForcesClash = Clash (offered kept n).bounds (rules_of (offered kept n).rules)

  -- the k-th of its rules, from 0, is the first whose addition brings a clash
  pub record FirstToClash (k : ℕ) : Type 0 where
    pub there : k < length (needs kept n)
    pub not_before : Clash (offered kept n).bounds (rules_to kept n k) → ⊥
    pub with_it : Clash (offered kept n).bounds (rules_to kept n (suc k))

  -- its number in document 01
  abbrev pub number_of : ℕ → ℕ
  number_of k = (get_or (needs kept n) k (says 0 0 0)).number

  -- how many classes there are with the node
  abbrev pub ClassesWith : ℕ → Type 0
  ClassesWith = Classes (offered kept n).bounds (rules_of (offered kept n).rules)

module _ (kept : List Node) where
  -- how many there are without it
  abbrev pub ClassesOf : ℕ → Type 0
  ClassesOf = Classes (built kept).bounds (rules_of (built kept).rules)

  -- some finite types satisfy every rule
  abbrev pub Satisfiable : Type 0
  Satisfiable = (v : ℕ → Ty) × Satisfies (built kept).bounds (rules_of (built kept).rules) v

  -- a listing shows most general types, with unit for what stayed free
  pub record ShowsMostGeneral (l : List ℕ) : Type 0 where
    pub types : ℕ → Open
    pub general : Principal (built kept).bounds (rules_of (built kept).rules) types
    pub shown : l ≡ listing (typed (λ a. chosen (λ free. Ty.one) (types a)) (built kept).arrows)

-- DEMAND 3, in a job: the bytes of the m answers from the n-th on; the last record is of kind 65
abbrev pub answers_from : ℕ → ℕ → List ℕ → List ℕ
answers_from n m bytes = take (8 * m) (drop (8 * n) bytes)

abbrev pub ClosesLast : List ℕ → Type 0
ClosesLast job = (n : ℕ) × (count job ≡ suc n) × (get_or job (place n) 0 ≡ 65)
