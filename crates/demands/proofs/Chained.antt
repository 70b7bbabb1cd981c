-- Demand 3, proved once: for calls that mean the calls of `types` on some state, whatever form the state has and
-- whatever is read of an answer.
use mathlib.Core.Path.{◌≡◌, refl, sym, ◌∙◌, subst}
use mathlib.Core.List.{List, [], ◌∷◌, map}
use Prim.Native.Nat.{ℕ}
use Rattle.classes.specs.Table.{limit}
use Rattle.nodes.specs.declared.Node.{Node}
use Rattle.nodes.specs.declared.Record.{Record}
use Rattle.types.specs.Closings.{Lists}
use Rattle.types.specs.Calls.{Called}
use Rattle.types.specs.Runs.{Runs}
use Rattle.types.specs.States.{State, Opened}
use Rattle.types.specs.declared.Answer.{Answer}
use Rattle.types.proofs.Demand3.{kept_nodes_are_kept_again}
use Rattle.types.proofs.Fixed.{same_nodes_same_state}
use Rattle.types.proofs.Once.{called_once, lists_once, runs_once}
use Rattle.demands.specs.Chains.{Chain, StillKept, Alike, Demand3}
use Rattle.demands.specs.Chains.Chain.{ends, goes}
use Rattle.demands.specs.Kinds.{Said, said, NoneKept}

-- a call on an opened state is answered and lists so, and what is read is got from that alone
pub record Means (most : ℕ) {Out : Type 0} (s : State) (o : Opened most s) (r : Record) (shows : Said → Out) (out : Out)
    (s' : State) : Type 0 where
  pub says : Said
  pub shown : out ≡ shows says
  pub called : Called most s o r says.answer s'
  pub lists : Lists o.nodes r says.listing

-- calls that mean those of `types`: a state of theirs is whole if its tables are as long as they should be, and is
-- then fixed by the state that it holds
pub record RecordCalls (most rows : ℕ) {X In Out : Type 0} (Whole : X → Type 0) (holds : X → State)
    (Step : X → In → Out → X → Type 0) (asks : In → Record) : Type 0 where
  pub long : {x : X} → Whole x → limit (holds x).classes ≡ rows
  pub fixed : {x y : X} → Whole x → Whole y → holds x ≡ holds y → x ≡ y
  pub shows : In → Said → Out
  pub stays : {x y : X} {i : In} {out : Out} → Whole x → Opened most (holds x) → Step x i out y → Whole y
  pub means : {x y : X} {i : In} {out : Out} → Step x i out y → (o : Opened most (holds x)) →
      Means most (holds x) o (asks i) (shows i) out (holds y)

module _ {most rows : ℕ} {X In Out : Type 0} {Whole : X → Type 0} {holds : X → State}
    {Step : X → In → Out → X → Type 0} {asks : In → Record} (c : RecordCalls most rows Whole holds Step asks) where
  -- no call has two outcomes
  pub same_step : {x y y' : X} {i : In} {out out' : Out} → Whole x → Opened most (holds x) → Step x i out y →
      Step x i out' y' → (out ≡ out') × (y ≡ y')
  same_step {i = i} w o a b =
      let m = c.means a o in
      let k = c.means b o in
      let (answer, state) = called_once m.called k.called in
      let listing = lists_once m.lists k.lists in (
        m.shown ∙ (λ j. c.shows i (said (answer j) (listing j))) ∙ sym k.shown,
        c.fixed (c.stays w o a) (c.stays w o b) state,
      )

  -- nor has a chain of them
  same_chain : {x z z' : X} {is : List In} {os os' : List Out} → Whole x → Opened most (holds x) →
      Chain Step x is os z → Chain Step x is os' z' → (os ≡ os') × (z ≡ z')
  same_chain w o ends ends = (refl, refl)
  same_chain {z' = z'} w o (goes a f) (goes {is = is} {os = os'} b g) =
      let (out, next) = same_step w o a b in
      let rest = subst (λ y. Chain Step y is os' z') (sym next) g in
      let (outs, last) = same_chain (c.stays w o a) (c.means a o).called.after f rest in
      (cc, last)

  -- a chain is a run, from the nodes kept at its start to those at its end
  record Ran (x : X) (kept : List Node) (is : List In) (z : X) : Type 0 where
    whole : Whole z
    opened : Opened most (holds z)
    answers : List Answer
    listings : List (List ℕ)
    runs : Runs most kept (map asks is) answers listings opened.nodes

  ran : {x z : X} {is : List In} {os : List Out} → Whole x → (o : Opened most (holds x)) → Chain Step x is os z →
      Ran x o.nodes is z
  ran w o ends = record { whole = w; opened = o; answers = []; listings = []; runs = Runs.ends }
  ran w o (goes a f) =
      let m = c.means a o in
      let r = ran (c.stays w o a) m.called.after f in
      record {
        whole = r.whole;
        opened = r.opened;
        answers = m.says.answer ∷ r.answers;
        listings = m.says.listing ∷ r.listings;
        runs = Runs.goes m.called.answered m.lists r.runs;
      }

  -- from what opening gave
  module _ (Fresh : X → Type 0) (fresh : (x : X) → Fresh x → Whole x × NoneKept most (holds x)) where
    first_ran : {x z : X} {is : List In} {os : List Out} → Fresh x → Chain Step x is os z → Ran x [] is z
    first_ran {x} {z} {is} f h = let (w, (o, none)) = fresh x f in subst (λ kept. Ran x kept is z) none (ran w o h)

    keeps : {x z : X} {is : List In} {kept : List Node} (r : Ran x [] is z) → StillKept most (map asks is) kept →
        r.opened.nodes ≡ kept
    keeps r (answers, listings, runs) = (runs_once r.runs runs).2

    to_one_state : {x x' y y' : X} {is is' : List In} {os os' : List Out} {kept : List Node} →
        Fresh x → Chain Step x is os y → StillKept most (map asks is) kept →
        Fresh x' → Chain Step x' is' os' y' → StillKept most (map asks is') kept →
        (y ≡ y') × Alike most Fresh Step asks y y'
    to_one_state {y = y} f h k f' h' k' =
        let r = first_ran f h in
        let r' = first_ran f' h' in
        let rows = c.long r.whole ∙ sym (c.long r'.whole) in
        let held = same_nodes_same_state r.opened r'.opened (keeps r k ∙ sym (keeps r' k')) rows in
        let same : y ≡ _ = c.fixed r.whole r'.whole held in (
          same,
          record {
            later = λ {is = is} {os' = os'} {y' = z'} a b.
                same_chain r.whole r.opened a (subst (λ x. Chain Step x is os' z') (sym same) b);
          },
        )

    pub chains_meet_demand_3 : Demand3 most Fresh Step asks
    chains_meet_demand_3 = record {
      kept = λ f h. let r = first_ran f h in (r.opened.nodes, (r.answers, r.listings, r.runs));
      one_state = to_one_state;
      as_fresh = λ {is' = is'} {kept = kept} f h k f' h' offered.
          let again = kept_nodes_are_kept_again k.2 in
          to_one_state f h k f' h' (subst (λ rs. StillKept most rs kept) (sym offered) again);
    }
