-- The laws that this crate offers to its callers, beside the contracts of its calls. Its other proofs cannot be named from above.

-- a fresh table stands for no rule; so every table that the calls made stands for some, before and after an entry or a join
pub use Rattle.classes.proofs.Judging.{fresh_stands, made_stands, added_stands, join_judged, merges_once}
-- no second answer, and undoing to a mark gives back the table of the mark
pub use Rattle.classes.proofs.Unique.{one_answer_to_add, one_answer_to_join, one_answer_to_undo}
pub use Rattle.classes.proofs.GivenBack.{undo_gives_back_the_mark}
-- a table that the calls made is a forest, and keeps its rows
pub use Rattle.classes.proofs.Closure.{made_good}
pub use Rattle.classes.proofs.GivenBack.{run_forest, run_links}
-- the way up from every entry ends at a root, and a root's row names an entry
pub use Rattle.classes.proofs.Premises.{made_rooted, root_shaped, shape_given}
pub use Rattle.classes.proofs.Roots.{root_live, root_of_own, settled}
pub use Rattle.classes.proofs.Climbing.{climb_stays}
-- what is known of bounds after entries and joins
pub use Rattle.classes.proofs.Bounds.{bound_given, bound_past, bounds_added, merges_bounds, merges_entries, apart_differ}
pub use Rattle.classes.proofs.Agreeing.{given_within}
-- no two numbers of classes
pub use Rattle.classes.proofs.Counting.{counted_once}
-- rows and their columns
pub use Rattle.classes.proofs.Columns.{same_columns, is_row, column_blank}
pub use Rattle.classes.proofs.Rows.{row_set, replicate_blank}
