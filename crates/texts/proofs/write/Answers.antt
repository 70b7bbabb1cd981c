-- `texts::write` meets its contract: each arm's text is what `put` copied; the last arm's number is none of 1 to 7.
use mathlib.Core.Path.{◌≡◌, ap, subst}
use mathlib.Core.List.{List}
use Prim.Native.Nat.{ℕ, ◌≤◌, suc-le-suc}
use lib.Dec.{lit≤}
use borrow.Author.Rules.{rules}
use Rattle.std.proofs.Common.{Bor}
use Rattle.std.specs.Prelude.{Result}
use Rattle.texts.specs.Texts.{text, AtFront, Written}
use Rattle.texts.specs.Texts.Written.{written, no_rule}
use Rattle.texts.specs.declared.Unwritten.{Unwritten}
use Rattle.nodes.proofs.Arms.{not_among}
use Rattle.texts.proofs.write.Goals as goal
use Rattle.texts.proofs.write.Goals.{in-1, in-2, in-3, in-4, in-5, in-6, in-7}

same : {s s' : Bor (List ℕ)} → s ≡ s' → s.now ≡ s'.now
same is = ap (λ (s : Bor (List ℕ)). s.now) is

is-written : (k : ℕ) {rule : ℕ} {r : Result ℕ Unwritten} {words out out' : List ℕ} → 1 ≤ k → k ≤ 7 → rule ≡ k → words ≡ text k → AtFront words out r out' →
    Written rule out r out'
is-written k {r = r} {out = out} {out' = out'} from to is words put = rw is (written from to (subst (λ (l : List ℕ). AtFront l out r out') words put))

pub returns-in_default : goal.returns-in_default
returns-in_default c = no_rule (λ from to. not_among 1 7 _ (search rules) from (suc-le-suc to))

pub returns : goal.returns
returns c =
    elim c.match-rule.branch [
      | in-1 w ↦ is-written 1 (lit≤ tt) (lit≤ tt) w.in-1.is (same w.text-is) c.put.ensures
      | in-2 w ↦ is-written 2 (lit≤ tt) (lit≤ tt) w.in-2.is (same w.text-is) c.put.ensures
      | in-3 w ↦ is-written 3 (lit≤ tt) (lit≤ tt) w.in-3.is (same w.text-is) c.put.ensures
      | in-4 w ↦ is-written 4 (lit≤ tt) (lit≤ tt) w.in-4.is (same w.text-is) c.put.ensures
      | in-5 w ↦ is-written 5 (lit≤ tt) (lit≤ tt) w.in-5.is (same w.text-is) c.put.ensures
      | in-6 w ↦ is-written 6 (lit≤ tt) (lit≤ tt) w.in-6.is (same w.text-is) c.put.ensures
      | in-7 w ↦ is-written 7 (lit≤ tt) (lit≤ tt) w.in-7.is (same w.text-is) c.put.ensures
    ]
