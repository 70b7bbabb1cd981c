-- `formats::answers::write` meets its contract: eight stores one after the other are an answer.
use Rattle.formats.proofs.Written.{answer_stored}
use Rattle.formats.proofs.answers.write.Goals as goal

pub returns : goal.returns
returns c =
    answer_stored c.args.bytes.now c.args.at c.args.answer c.requires c.second.type_inv c.code.ensures c.first.ensures c.second.ensures c.write_two.ensures c.write_two-2.ensures c.write_two-3.ensures c.write_two-4.ensures
