-- Two texts of the bench program, computed on the definitions, byte for byte: document 01's example, and one in which every number differs from its
-- neighbours. Only the look at 17 is not computed: the start state of a valid network passes it by a law.
-- Assumes nothing.
use Prim.Native.Nat.{ℕ, suc}
use mathlib.Core.Path.{◌≡◌, refl, ◌∙◌, ap}
use mathlib.Core.Bool.{true}
use mathlib.Core.List.{List}
use lib.ListN.{length, drop}
use Rattle.laws.specs.Choice.{if_b, if_lt, if_eq, both}
use Rattle.laws.specs.Below.{first_of, fold_below, over_below, list_below, all_below, count_below, sum_below, pick_below}
use Rattle.laws.specs.Lists.{total}
use Rattle.laws.proofs.Choice.{if_b_yes, both_yes}
use Rattle.nodeset.specs.Marks.{digit, member, inserted, all_in, members_of, values_in}
use Rattle.network.specs.declared.Network.{Network}
use Rattle.network.specs.Sets.{towards, link_gives, link_set, child_set, with_sets}
use Rattle.network.specs.Valid.{within_limits, node_fits, rises, link_fits, link_rises, link_stands, agrees, valid_network}
use Rattle.records.specs.Record.{body_length, record_at, read_at}
use Rattle.records.specs.Rules.{rounds_rule, node_rule, follows_of, link_rule, end_rule}
use Rattle.network.specs.Zeros.{zero_network}
use Rattle.records.specs.Reader.{rounds_added, node_added, link_added, turn, lists_from, lists_of}
use Rattle.links.specs.Links.{pair_is, joins, link_between, has_link}
use Rattle.tree.specs.Climb.{root_from}
use Rattle.tree.specs.Checks.{untied, first_untied, first_lost}
use Rattle.clusters.specs.Clusters.{roots_of, root_at, inside, first_inside, not_one, first_not_one, cluster_count}
use Rattle.joined.specs.Joined.{follow, across, pass, joined_marks, first_unjoined}
use Rattle.plan.specs.Checks.{checks_of, plan_of}
use Rattle.laws.specs.Mean.{share_of, rule_of}
use Rattle.actions.specs.Kinds.{number_of, index_of, kind_at, cell_of}
use Rattle.actions.specs.Table.{place_of, own_of, knows_by, may_go_by, need_of, every_of, does_of}
use Rattle.actions.specs.Records as actions
use Rattle.queue.specs.Queue.{head_of, packet_first, ack_first, room_answer, pushed, moved_up, popped, heard_in}
use Rattle.synchronizer.specs.declared.Done.{Done}
use Rattle.synchronizer.specs.Wires.{joined, lanes_of, wires_of, is_root, around_of}
use Rattle.counts.specs.Counts.{children_have}
use Rattle.synchronizer.specs.Answer.{stands_in, starts_round, count_answer, senders_have, every_has, queue_answer, own_in, legal_answer, need_answer, answer_in}
use Rattle.synchronizer.specs.After.{mean_heard, effect_in, counted, after_in}
use Rattle.synchronizer.specs.Valid.{valid_state}
use Rattle.synchronizer.specs.Start.{fresh_with, start_of}
use Rattle.synchronizer.specs.Entry.{in_range, done_in, acted_as, record_in, act_in, list_from, list_of}
use Rattle.synchronizer.proofs.Keeps.{start_valid}
use Rattle.text.specs.Lines.{glyph, digits_in, decimal, fields, line}
use Rattle.report.specs.Example.{example, output, halfway, halfway_text}
use Rattle.report.specs.Lines.{node_lines}
use Rattle.report.specs.Report.{run_text, list_text, planned_text, text_of}

-- a list handed in from the start state of a valid network is looked at record by record
from_the_start : (net : Network) (bytes : List ℕ) → length net.starts ≡ 64 → valid_network net ≡ true → list_of net (start_of net).state bytes ≡ list_from (suc (length bytes)) (wires_of net) (fresh_with net.starts) bytes 0 0
unfolding list_of in_range start_of
from_the_start net bytes long valid =
    if_b_yes (both (valid_network net) (valid_state net (start_of net).state)) _ _ (both_yes (valid_network net) (valid_state net (start_of net).state) valid (start_valid net long valid).0)
    ∙ ap (λ s. list_from (suc (length bytes)) (wires_of net) s bytes 0 0) (ap (λ (r : Done). r.state) (if_b_yes (valid_network net) _ _ valid))

-- the plan takes n bytes, and its network is valid; the rest of the bytes gives the text
record Read (bytes : List ℕ) (n : ℕ) (text : List ℕ) : Type 0 where
  pub planned : text_of bytes ≡ run_text (plan_of bytes).network n (list_of (plan_of bytes).network (start_of (plan_of bytes).network).state (drop n bytes))
  pub long : length (plan_of bytes).network.starts ≡ 64
  pub valid : valid_network (plan_of bytes).network ≡ true
  pub written : run_text (plan_of bytes).network n (list_from (suc (length (drop n bytes))) (wires_of (plan_of bytes).network) (fresh_with (plan_of bytes).network.starts) (drop n bytes) 0 0) ≡ text

text_of_read : (bytes : List ℕ) (n : ℕ) (text : List ℕ) → Read bytes n text → text_of bytes ≡ text
text_of_read bytes n text r =
    let net = (plan_of bytes).network in
    r.planned ∙ ap (run_text net n) (from_the_start net (drop n bytes) r.long r.valid) ∙ r.written

example_read : Read example 9 output
unfolding plan_of checks_of lists_of lists_from turn read_at record_at body_length if_lt if_eq if_b both zero_network rounds_rule node_rule follows_of rises link_rule end_rule rounds_added node_added link_added with_sets towards link_gives link_set child_set first_untied untied has_link link_between joins pair_is first_of first_lost root_from first_inside first_not_one first_unjoined joined_marks pass across follow fold_below list_below all_below member digit inserted within_limits node_fits link_fits link_rises link_stands agrees valid_network list_text planned_text text_of pick_below all_in members_of values_in cluster_count count_below sum_below share_of rule_of total number_of index_of kind_at cell_of place_of own_of knows_by may_go_by need_of every_of does_of actions.names_of actions.body_of actions.act_at actions.read_at joined lanes_of wires_of is_root around_of stands_in starts_round count_answer children_have senders_have every_has head_of packet_first ack_first room_answer queue_answer own_in legal_answer need_answer answer_in pushed moved_up popped heard_in mean_heard effect_in counted after_in fresh_with done_in acted_as record_in act_in list_from glyph digits_in decimal fields line node_lines run_text example output
example_read = record { planned = refl; long = refl; valid = refl; written = refl }

pub example_text : text_of example ≡ output
example_text = text_of_read example 9 output example_read

halfway_read : Read halfway 27 halfway_text
unfolding plan_of checks_of lists_of lists_from turn read_at record_at body_length if_lt if_eq if_b both zero_network rounds_rule node_rule follows_of rises link_rule end_rule rounds_added node_added link_added with_sets towards link_gives link_set child_set first_untied untied has_link link_between joins pair_is first_of first_lost root_from first_inside first_not_one first_unjoined joined_marks pass across follow fold_below list_below all_below member digit inserted within_limits node_fits link_fits link_rises link_stands agrees valid_network list_text planned_text text_of pick_below all_in members_of values_in cluster_count count_below sum_below share_of rule_of total number_of index_of kind_at cell_of place_of own_of knows_by may_go_by need_of every_of does_of actions.names_of actions.body_of actions.act_at actions.read_at joined lanes_of wires_of is_root around_of stands_in starts_round count_answer children_have senders_have every_has head_of packet_first ack_first room_answer queue_answer own_in legal_answer need_answer answer_in pushed moved_up popped heard_in mean_heard effect_in counted after_in fresh_with done_in acted_as record_in act_in list_from glyph digits_in decimal fields line node_lines run_text inside not_one root_at roots_of over_below halfway halfway_text
halfway_read = record { planned = refl; long = refl; valid = refl; written = refl }

-- every number of the text at its own place
pub halfway_text_lem : text_of halfway ≡ halfway_text
halfway_text_lem = text_of_read halfway 27 halfway_text halfway_read
