-- `tsarovima_c::tsarovima_open` meets its contract: every table is cleared and opened, or one is too long or too short.
use native.Mathlib.Omega.{arith}
use Rattle.tsarovima_c.specs.Lent.{OpenedBy}
use Rattle.tsarovima_c.proofs.Lending.{opened_by}
use Rattle.tsarovima_c.proofs.tsarovima_open.Goals as goal

pub returns-then-wrong_tables : goal.returns-then-wrong_tables
returns-then-wrong_tables c = OpenedBy.wrong_length (c.wrong_tables.ensures.0 c.if-wrong_tables.true)

pub returns : goal.returns
returns c =
    let s = c.wrong_tables.ensures.1 c.if-wrong_tables.false in
    opened_by s (c.fill.ensures.after (λ y e. e)) c.open-opened.ensures.0 c.open-opened.ensures.1 (c.fill-2.ensures.after (λ y e. e)) (c.fill-4.ensures.after (λ y e. e)) (c.fill-5.ensures.after (λ y e. e)) c.copy_from_slice.ensures.after
    (record {
      parents = grind (arith, s.parents);
      ranks = grind (arith, s.ranks);
      four_an_entry = grind (arith, s.four_an_entry);
      three_a_link = grind (arith, s.three_a_link);
      seven_a_node = grind (arith, s.seven_a_node);
      counts = grind (arith, s.counts);
    })
