-- A clash names a rule of document 01, 1 to 7: D = target s, which has no number, cannot clash, since D is a new
-- entry that nothing names yet.
use mathlib.Core.Path.{◌≡◌, sym, ap, subst}
use mathlib.Core.Logic.{by_cases, ⊎_elim}
use mathlib.Core.List.Memᴰ
use mathlib.Core.List.{List, [], ◌∷◌, ◌++◌, Memᴰ}
use mathlib.Core.List.{append_assoc, map-append}
use Prim.Native.Nat.{ℕ, suc, ◌+◌, ◌-◌, ◌≤◌, ◌<◌}
use native.Mathlib.Decide.{dec_lt}
use native.Mathlib.Omega.{arith}
use lib.ListN.{length, get_or, take, drop, get_or-append}
use lib.Seq.{get_or-append-add}
use Rattle.classes.specs.Bounds.{bound}
use Rattle.classes.specs.Forced.{Rule, Clash}
use Rattle.classes.specs.Made.{Within}
use Rattle.classes.specs.Table.{bounds}
use Rattle.classes.specs.declared.Bound.{Bound}
use Rattle.classes.specs.declared.Bound.TheVariants.{Free, Unit as Unit', Sum, Product}
use Rattle.classes.proofs.Laws.{made_good, bound_given, bound_past, given_within}
use Rattle.nodes.specs.Layout.{Numbered, says, Program, arrow_of, case_entries, row_of, grown, built}
use Rattle.nodes.specs.Layout.{rules_of}
use Rattle.nodes.specs.declared.Node.{Node}
use Rattle.nodes.specs.declared.Node.TheVariants.{Iden, Unit, InjL, InjR, Take, Drop, Comp, Case, AssertL, AssertR}
use Rattle.nodes.specs.declared.Node.TheVariants.{Pair, Disconnect, DisconnectHole, Witness, Fail, Word}
use Rattle.nodes.specs.declared.Record.{Record}
use Rattle.types.specs.Answers.{numbers, Below, Answered}
use Rattle.types.specs.Answers.Offered.{clashes}
use Rattle.types.specs.Answers.Answered.{malformed, over_31, full, no_child, keeps, refuses, takes_back, too_far}
use Rattle.types.specs.Answers.Answered.{closes, endless}
use Rattle.types.specs.States.{State, Opened}
use Rattle.types.specs.declared.Answer.{Answer}
use Rattle.types.proofs.Offering.{opened_stood}
use Rattle.demands.proofs.Moving.{Without, new_free_entry_cannot_clash}

-- every number in a program names an entry
record Inside (p : Program) : Type 0 where
  bounds : (a : ℕ) → Within (length p.bounds) (bound p.bounds a)
  rules : (r : Rule) → Memᴰ r (rules_of p.rules) →
      (r.one < length p.bounds) × (r.other < length p.bounds)
  sources : (i : ℕ) → i < length p.arrows → (arrow_of p.arrows i).source < length p.bounds

opened_inside : {most : ℕ} {s : State} (o : Opened most s) → Inside (built o.nodes)
opened_inside {s = s} o =
    let known = opened_stood o in
    let t = s.classes in
    let at : (a : ℕ) → Within t.entries (bound (bounds t) a) =
    λ a. by_cases (dec_lt a t.entries)
    (λ h. rw (bound_given t a h) (given_within (made_good known.stands.made).forest a h))
    (λ past. rw (bound_past t a (omega (arith, past))) Within.free) in
    subst Inside known.program_is (record {
      bounds = λ a. rw (← known.entries_are, ← known.bounds_are) (at a);
      rules = λ r m. rw (← known.entries_are) (known.stands.named r m);
      sources = known.ranged.sources;
    })

-- an entry past those that are there is named by none of their bounds
without_next : {e d : ℕ} (b : Bound) → e ≤ d → Within e b → Without d b
without_next Free h w = tt
without_next Unit' h w = tt
without_next (Sum l r) h (Within.sum hl hr) = (λ is. omega arith, λ is. omega arith)
without_next (Product l r) h (Within.product hl hr) = (λ is. omega arith, λ is. omega arith)

-- the entries of a case but the last ones, `more`: none has D for a part
case_without : (e : ℕ) (more : List Bound) → ((a : ℕ) → Without (e + 3) (bound more a)) → (a : ℕ) →
    Without (e + 3) (bound (case_entries e more) a)
case_without e more rest ℕ.zero = tt
case_without e more rest (ℕ.suc ℕ.zero) = tt
case_without e more rest (ℕ.suc (ℕ.suc ℕ.zero)) = tt
case_without e more rest (ℕ.suc (ℕ.suc (ℕ.suc ℕ.zero))) = tt
case_without e more rest (ℕ.suc (ℕ.suc (ℕ.suc (ℕ.suc ℕ.zero)))) = (λ is. omega arith, λ is. omega arith)
case_without e more rest (ℕ.suc (ℕ.suc (ℕ.suc (ℕ.suc (ℕ.suc ℕ.zero))))) = (λ is. omega arith, λ is. omega arith)
case_without e more rest (ℕ.suc (ℕ.suc (ℕ.suc (ℕ.suc (ℕ.suc (ℕ.suc a)))))) = rest a

-- the last ones: A × C, B × C, or both
left_without : (e a : ℕ) → Without (e + 3) (bound (Product e (e + 2) ∷ []) a)
left_without e ℕ.zero = (λ is. omega arith, λ is. omega arith)
left_without e (ℕ.suc a) = tt

right_without : (e a : ℕ) → Without (e + 3) (bound (Product (e + 1) (e + 2) ∷ []) a)
right_without e ℕ.zero = (λ is. omega arith, λ is. omega arith)
right_without e (ℕ.suc a) = tt

two_without : (e a : ℕ) → Without (e + 3) (bound (Product e (e + 2) ∷ Product (e + 1) (e + 2) ∷ []) a)
two_without e ℕ.zero = (λ is. omega arith, λ is. omega arith)
two_without e (ℕ.suc a) = right_without e a

-- a case, or a half of one, offered to a program: its first child is i, its first rule has number q
module _ (p : Program) (inside : Inside p) (i : ℕ) (there : i < length p.arrows) (more : List Bound)
    (rest : (a : ℕ) → Without (length p.bounds + 3) (bound more a)) (q : ℕ) where
  abbrev e : ℕ
  e = length p.bounds

  abbrev all : List Bound
  all = p.bounds ++ case_entries e more

  abbrev first : Numbered
  first = says q (arrow_of p.arrows i).source (e + 6)

  abbrev target : Numbered
  target = says 0 (e + 3) (arrow_of p.arrows i).target

  -- the rules so far, with the first of its own
  abbrev rules : List Rule
  rules = rules_of p.rules ++ (first.rule ∷ [])

  unnamed : (a : ℕ) → Without (e + 3) (bound all a)
  unnamed a = by_cases (dec_lt a e)
      (λ h. rw (get_or-append p.bounds (case_entries e more) Free a h)
      (without_next _ (omega arith) (inside.bounds a)))
      (λ past.
      let is : a ≡ e + (a - e) = omega (arith, past) in
      subst (λ (k : ℕ). Without (e + 3) (bound all k)) (sym is)
      (rw (get_or-append-add p.bounds (case_entries e more) (a - e) Free) (case_without e more rest (a - e))))

  unruled : (r : Rule) → Memᴰ r rules → (r.one ≡ e + 3 → ⊥) × (r.other ≡ e + 3 → ⊥)
  unruled r m = ⊎_elim
      (λ old. let (one, other) = inside.rules r old in (λ is. omega (arith, one, is), λ is. omega (arith, other, is)))
      (λ new.
      let named : r ≡ first.rule = Memᴰ.eq_of_singleton new in
      let one = ap (λ (x : Rule). x.one) named in
      let other = ap (λ (x : Rule). x.other) named in
      (λ is. omega (arith, inside.sources i there, is, one), λ is. omega (arith, is, other)))
      (Memᴰ.append_cases (rules_of p.rules) m)

  target_cannot_clash : Clash all (rules_of (p.rules ++ (first ∷ target ∷ []))) →
      Clash all (rules_of (p.rules ++ (first ∷ [])))
  target_cannot_clash c =
      let as_one : rules_of (p.rules ++ (first ∷ target ∷ [])) ≡ rules ++ (target.rule ∷ []) =
      simp (map-append, append_assoc) in
      let free = get_or-append-add p.bounds (case_entries e more) 3 Free in
      rw map-append
      (new_free_entry_cannot_clash all rules (e + 3) target.rule.other free unnamed unruled
      (subst (λ rs. Clash all rs) as_one c))

-- a number of document 01's rules
abbrev OfTheTable : ℕ → Type 0
OfTheTable number = (1 ≤ number) × (number ≤ 7)

abbrev AllOfTheTable : List Numbered → Type 0
AllOfTheTable [] = Prim.Unit {0}
AllOfTheTable (q ∷ qs) = OfTheTable q.number × AllOfTheTable qs

of_the_table : (qs : List Numbered) → AllOfTheTable qs → (k : ℕ) → k < length qs →
    OfTheTable (get_or qs k (says 0 0 0)).number
of_the_table [] all k h = absurd (omega (arith, h))
of_the_table (q ∷ qs) all ℕ.zero h = all.0
of_the_table (q ∷ qs) all (ℕ.suc k) h = of_the_table qs all.1 k (omega (arith, h))

-- the k-th rule of a node offered to a program is the first to clash
module _ (p : Program) (inside : Inside p) where
  abbrev Clashing : Node → ℕ → Type 0
  Clashing n k = Clash (grown p n).bounds (rules_of (p.rules ++ take k (row_of p n).needs))

  rule_named : (n : Node) → Below (length p.arrows) n → (k : ℕ) → k < length (row_of p n).needs →
      (Clashing n k → ⊥) → Clashing n (suc k) →
      OfTheTable (get_or (row_of p n).needs k (says 0 0 0)).number
  rule_named Iden below k h none clash = absurd (omega (arith, h))
  rule_named Unit below k h none clash = absurd (omega (arith, h))
  rule_named (InjL i) below k h none clash = absurd (omega (arith, h))
  rule_named (InjR i) below k h none clash = absurd (omega (arith, h))
  rule_named (Take i) below k h none clash = absurd (omega (arith, h))
  rule_named (Drop i) below k h none clash = absurd (omega (arith, h))
  rule_named (Comp i j) below k h none clash = of_the_table (row_of p (Comp i j)).needs (omega arith) k h
  rule_named (Case i j) below ℕ.zero h none clash = omega arith
  rule_named (Case i j) below (ℕ.suc ℕ.zero) h none clash =
      absurd (none (target_cannot_clash p inside i (below i (Memᴰ.head (λ k. i))) _ (two_without _) 3 clash))
  rule_named (Case i j) below (ℕ.suc (ℕ.suc k)) h none clash =
      of_the_table (drop 2 (row_of p (Case i j)).needs) (omega arith) k (omega (arith, h))
  rule_named (AssertL i) below ℕ.zero h none clash = omega arith
  rule_named (AssertL i) below (ℕ.suc ℕ.zero) h none clash =
      absurd (none (target_cannot_clash p inside i (below i (Memᴰ.head (λ k. i))) _ (left_without _) 3 clash))
  rule_named (AssertL i) below (ℕ.suc (ℕ.suc k)) h none clash = absurd (omega (arith, h))
  rule_named (AssertR i) below ℕ.zero h none clash = omega arith
  rule_named (AssertR i) below (ℕ.suc ℕ.zero) h none clash =
      absurd (none (target_cannot_clash p inside i (below i (Memᴰ.head (λ k. i))) _ (right_without _) 4 clash))
  rule_named (AssertR i) below (ℕ.suc (ℕ.suc k)) h none clash = absurd (omega (arith, h))
  rule_named (Pair i j) below k h none clash = of_the_table (row_of p (Pair i j)).needs (omega arith) k h
  rule_named (Disconnect i j) below k h none clash = of_the_table (row_of p (Disconnect i j)).needs (omega arith) k h
  rule_named (DisconnectHole i) below k h none clash =
      of_the_table (row_of p (DisconnectHole i)).needs (omega arith) k h
  rule_named Witness below k h none clash = absurd (omega (arith, h))
  rule_named Fail below k h none clash = absurd (omega (arith, h))
  rule_named (Word m) below k h none clash = absurd (omega (arith, h))

module _ {most : ℕ} {s : State} (o : Opened most s) where
  arrows_there : length (built o.nodes).arrows ≡ length o.nodes
  arrows_there = rw (← (opened_stood o).program_is) (opened_stood o).arrows_are

  pub named_1_to_7 : {r : Record} {a : Answer} {kept' : List Node} → Answered most o.nodes r a kept' →
      (numbers a).code ≡ 4 →
      (1 ≤ (numbers a).first) × ((numbers a).first ≤ 7)
  named_1_to_7 malformed code = absurd (omega (arith, code))
  named_1_to_7 (over_31 u) code = absurd (omega (arith, code))
  named_1_to_7 (full p f) code = absurd (omega (arith, code))
  named_1_to_7 (no_child p l b) code = absurd (omega (arith, code))
  named_1_to_7 (keeps p l b q) code = absurd (omega (arith, code))
  named_1_to_7 (refuses {n = n} p l b (clashes k h none clash)) code =
      rule_named (built o.nodes) (opened_inside o) n (rw arrows_there b) k h none clash
  named_1_to_7 (takes_back h) code = absurd (omega (arith, code))
  named_1_to_7 (too_far f) code = absurd (omega (arith, code))
  named_1_to_7 (closes c) code = absurd (omega (arith, code))
  named_1_to_7 (endless h e lowest) code = absurd (omega (arith, code))
