-- `tsarovima::file::read` ends: each turn reads a byte or more, and the array's room is the measure.
use Rattle.std.proofs.Common.{length, ◌-◌}
use Rattle.tsarovima.proofs.file.read.Given as goal

abbrev pub decreases-loop-at : goal.decreases-loop-at
decreases-loop-at g l = length l.initial.space - l.at
