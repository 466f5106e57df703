-- The one claim over the list of samples, by computation.
use mathlib.Core.Path.{◌≡◌, refl}
use mathlib.Core.List.{map}
use lib.ListN.{length}
use Rattle.semantics.specs.Lists.{up_to}
use Rattle.semantics.specs.Files.{word_at, bit, has_bit, ones_below, arity, column_bytes, column_start, value, copy_bytes, copy_start, copies_fit, copies_at, mark_of, copies_out, record_bytes, table_record, plan_record, read_from, read}
use Rattle.semantics.specs.Plans.{plan_of}
use Rattle.semantics.specs.Shapes.{attributes, shape_of, holds, shared, join_attributes, left_rows, rows_in, width, scratch_need, output_fits}
use Rattle.semantics.specs.Mending.{holds_all, holders, topmost, hang, chosen, right_root, left_root, mended_root, mend, penalty, both_hold}
use Rattle.semantics.specs.Elimination.{without, lowest, shared_in, shared_attributes, parent_of, eliminate}
use Rattle.semantics.specs.Results.{base_of, pair_of, pair_numbers, recorded, recorded_key, agrees, results, tuple, participants, key, left_key, right_key, entered, walked}
use Rattle.semantics.specs.SearchTrees.{bit_at, compared}
use Rattle.semantics.specs.Totals.{hold_limit, held}
use Rattle.semantics.specs.Counts.{entered_keys, sought_keys, entries, lookups, comparisons, visits}
use Rattle.semantics.specs.Outcome.{sent_verdict, found_verdict, asks_for_plan, plan_verdict, read_verdict, rules_verdict, scratch_verdict, verdict, zeros, joined_answer, join_outcome, outcome, figures_of, figures}
use Rattle.semantics.specs.Exhaustive.{pair_count, choice_count, choices_verdict, slow_verdict, choices_outcome, slow_outcome}
use Rattle.semantics.specs.Access.{result_at, number_of, rows_by_table, copies_by_table, choice_of, names_pair, names_result, too_many, result_given, result_past_ten, result_outcome, number_past_ten, number_outcome}
use Rattle.semantics.specs.Samples.{samples, seen, expected, sample_file, sample_bytes}

-- the sample file is the 126 bytes of document 01
pub sample-bytes : (sample_file ≡ sample_bytes) × (length sample_bytes ≡ 126)
sample-bytes = (refl, refl)

pub samples_hold : map seen samples ≡ map expected samples
unfolding seen expected result_outcome result_past_ten result_given number_outcome number_past_ten too_many names_result names_pair choice_of rows_by_table copies_by_table number_of result_at slow_outcome choices_outcome slow_verdict choices_verdict choice_count pair_count outcome figures figures_of join_outcome joined_answer zeros verdict scratch_verdict rules_verdict read_verdict plan_verdict asks_for_plan found_verdict sent_verdict eliminate parent_of shared_attributes shared_in lowest without visits comparisons lookups entries sought_keys entered_keys held hold_limit compared bit_at entered walked recorded_key recorded right_key left_key key participants tuple results agrees pair_numbers pair_of base_of copies_at output_fits scratch_need width rows_in left_rows mend penalty mended_root left_root right_root chosen hang topmost holders holds_all both_hold join_attributes shared holds shape_of attributes plan_of read read_from plan_record table_record record_bytes copies_out mark_of copies_fit copy_start copy_bytes value column_start column_bytes arity ones_below has_bit bit word_at up_to
samples_hold = refl
