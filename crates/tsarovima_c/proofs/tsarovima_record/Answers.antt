-- `tsarovima_c::tsarovima_record` meets its contract: what putting one record promises, with the counts stored, or a length is wrong.
use Rattle.std.proofs.Common.{rules}
use native.Mathlib.Omega.{arith}
use Rattle.tsarovima_c.specs.Lent.{RecordedBy}
use Rattle.tsarovima_c.proofs.Lending.{recorded_by}
use Rattle.tsarovima_c.proofs.tsarovima_record.Goals as goal

pub returns-then-wrong_tables : goal.returns-then-wrong_tables
returns-then-wrong_tables c = RecordedBy.wrong_length (λ h. c.wrong_tables.ensures.0 c.if-wrong_tables.true h.0)

pub returns-then-wrong_room : goal.returns-then-wrong_room
returns-then-wrong_room c = RecordedBy.wrong_length (λ h. c.wrong_room.ensures.0 c.if-wrong_room.true h.1)

pub returns : goal.returns
returns c =
    let sized = c.wrong_tables.ensures.1 c.if-wrong_tables.false in
    recorded_by c.run.new.state (sized, c.wrong_room.ensures.1 c.if-wrong_room.false) c.copy_from_slice.ensures.after
    (record {
      parents = grind (arith, sized.parents);
      ranks = grind (arith, sized.ranks);
      four_an_entry = grind (arith, sized.four_an_entry);
      three_a_link = grind (arith, sized.three_a_link);
      seven_a_node = grind (arith, sized.seven_a_node);
      counts = grind (arith, sized.counts);
    })
    (search rules) (search rules) (search rules) (search rules) (search rules) c.run.ensures.puts
