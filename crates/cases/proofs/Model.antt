-- The model: records put to it one after the other, each answered by computing. Whatever it answers is what the relations say.
use mathlib.Core.Path.{◌≡◌, subst}
use mathlib.Core.Option.{Option, some}
use mathlib.Core.List.{List, [], ◌∷◌}
use Prim.Native.Nat.{ℕ, ◌^◌, ◌≤◌, ◌<◌}
use native.Mathlib.Omega.{arith}
use Rattle.nodes.specs.declared.Record.{Record}
use Rattle.nodes.specs.declared.Record.TheVariants.{Offer, TakeBack, Close, Malformed as Misshapen}
use Rattle.types.specs.Answers.{Answered}
use Rattle.types.specs.Closings.{Lists}
use Rattle.types.specs.Runs.{Runs}
use Rattle.types.specs.States.{Standing}
use Rattle.types.specs.declared.Answer.{Answer}
use Rattle.types.specs.declared.Answer.TheVariants.{Malformed}
use Rattle.cases.proofs.Whatever.{Whatever, and_then, whatever_then}
use Rattle.cases.proofs.Offers.{Held, Good, begin, most, offer, offer_answers}
use Rattle.cases.proofs.Taking.{take_back, take_back_answers}
use Rattle.cases.proofs.Closing.{close, close_answers}

-- what a record is answered, what it lists, and what is held then
abbrev Said : Type 0
Said = Answer × List ℕ × Held

-- what a run of records is answered, what each of them lists, and what is held at the end
abbrev pub Ran : Type 0
Ran = List Answer × List (List ℕ) × Held

module _ (rows fuel : ℕ) where
  abbrev put : Held → Record → Option Said
  put k (Offer n) = and_then (offer rows fuel k n) (λ o. some (o.0, [], o.1))
  put k (TakeBack j) = and_then (take_back rows fuel k j) (λ o. some (o.0, [], o.1))
  put k Close = and_then (close fuel k) (λ o. some (o.0, o.1, k))
  put k Misshapen = some (Malformed, [], k)

  abbrev and_more : (Held → Option Ran) → Said → Option Ran
  and_more rest s = and_then (rest s.2) (λ r. some (s.0 ∷ r.0, s.1 ∷ r.1, r.2))

  abbrev run : List Record → Held → Option Ran
  run [] k = some ([], [], k)
  run (r ∷ rs) k = and_then (put k r) (and_more (run rs))

  -- from a fresh state
  abbrev pub model : List Record → Option Ran
  model rs = run rs (begin rows)

  abbrev Says : Held → Record → Said → Type 0
  Says k r s = Answered most k.nodes r s.0 s.2.nodes × Lists k.nodes r s.1 × Good rows s.2

  put_says : (k : Held) → Good rows k → (r : Record) → Whatever (Says k r) (put k r)
  put_says k g (Offer n) = whatever_then _ (Says k (Offer n)) (λ o. some (o.0, [], o.1)) (λ o is. (is.0, Lists.offers, is.1)) (offer rows fuel k n) (offer_answers rows fuel k n g)
  put_says k g (TakeBack j) = whatever_then _ (Says k (TakeBack j)) (λ o. some (o.0, [], o.1)) (λ o is. (is.0, Lists.takes_back, is.1)) (take_back rows fuel k j) (take_back_answers rows fuel k j g)
  put_says k g Close = whatever_then _ (Says k Close) (λ o. some (o.0, o.1, k)) (λ o is. (is.0, is.1, g)) (close fuel k) (close_answers g fuel)
  put_says k g Misshapen = (Answered.malformed, Lists.malformed, g)

  abbrev RunsFrom : Held → List Record → Ran → Type 0
  RunsFrom k rs r = Runs most k.nodes rs r.0 r.1 r.2.nodes

  more_runs : (rest : Held → Option Ran) (k : Held) (r : Record) (rs : List Record) → ((h : Held) → Good rows h → Whatever (RunsFrom h rs) (rest h)) →
      (s : Said) → Says k r s → Whatever (RunsFrom k (r ∷ rs)) (and_more rest s)
  more_runs rest k r rs right s (answered, lists, good) =
      whatever_then (RunsFrom s.2 rs) (RunsFrom k (r ∷ rs)) (λ q. some (s.0 ∷ q.0, s.1 ∷ q.1, q.2)) (λ q later. Runs.goes answered lists later) (rest s.2) (right s.2 good)

  run_runs : (rs : List Record) (k : Held) → Good rows k → Whatever (RunsFrom k rs) (run rs k)
  run_runs [] k g = Runs.ends
  run_runs (r ∷ rs) k g = whatever_then (Says k r) (RunsFrom k (r ∷ rs)) (and_more (run rs)) (more_runs (run rs) k r rs (run_runs rs)) (put k r) (put_says k g r)

  -- whatever the model answers, the records are answered so: the model meets the relations
  module _ (wide : 33 ≤ rows) (small : rows < 2 ^ 16) where
    model_runs : (rs : List Record) → Whatever (RunsFrom (begin rows) rs) (model rs)
    model_runs rs = run_runs rs (begin rows) (record { small = small; room = omega (arith, wide); stands = Standing.begun })

    pub model_meets_the_relations : (rs : List Record) (r : Ran) → model rs ≡ some r → Runs 1024 [] rs r.0 r.1 r.2.nodes
    model_meets_the_relations rs r e = subst (Whatever (RunsFrom (begin rows) rs)) e (model_runs rs)
