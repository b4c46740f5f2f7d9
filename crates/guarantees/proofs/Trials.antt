-- The starred trials of document 01 on the definitions that the public contracts cite: bytes to plan, start state, list and table. The start
-- state of a valid network is known to be in range, so what is computed of a row is its plan, its list and its table.
-- Assumes nothing.
use Prim.Native.Nat.{ℕ, suc}
use mathlib.Core.Path.{◌≡◌, refl, ◌∙◌, ap}
use mathlib.Core.Bool.{true}
use mathlib.Core.List.{List, [], ◌∷◌}
use lib.ListN.{length}
use Rattle.laws.specs.Choice.{if_b, if_lt, if_eq, both}
use Rattle.laws.specs.Below.{all_below, sum_below, count_below, fold_below, first_of, over_below, list_below, pick_below}
use Rattle.laws.specs.Lists.{total}
use Rattle.nodeset.specs.Marks.{digit, member, inserted, removed, size_of, lowest_of, all_in, sum_in, members_of, values_in}
use Rattle.network.specs.Sets.{towards, link_gives, link_set, child_set, with_sets, added, linked, adopted}
use Rattle.network.specs.Valid.{within_limits, node_fits, rises, link_fits, link_rises, link_stands, agrees, valid_network}
use Rattle.records.specs.Record.{body_length, record_at, read_at as records_read_at}
use Rattle.records.specs.Rules.{rounds_rule, node_rule, follows_of, link_rule, end_rule}
use Rattle.network.specs.Zeros.{zero_network}
use Rattle.records.specs.Reader.{rounds_added, node_added, link_added, turn, lists_from, lists_of}
use Rattle.links.specs.Links.{pair_is, joins, link_between, has_link}
use Rattle.tree.specs.Climb.{climb, root_of, root_from, depth_from, depth_of, LeadsIn}
use Rattle.tree.specs.Checks.{untied, first_untied, Tied, first_lost}
use Rattle.clusters.specs.Clusters.{roots_of, root_at, inside, first_inside, chosen, preferred_between, not_one, first_not_one, cluster_count, cluster_of, JoinsTwo, PairHasOne}
use Rattle.joined.specs.Joined.{follow, across, pass, joined_marks, first_unjoined}
use Rattle.plan.specs.Checks.{checks_of, plan_of}
use Rattle.laws.specs.Mean.{share_of, rule_of}
use Rattle.lockstep.specs.Rule.{mean_of}
use Rattle.lockstep.specs.Rounds.{next_by, round_by, rounds_by, lockstep_of}
use Rattle.lockstep.specs.Table.{table_number, table_of}
use Rattle.actions.specs.Kinds.{number_of, index_of, kind_at, cell_of}
use Rattle.actions.specs.Table.{place_of, own_of, knows_by, may_go_by, need_of, every_of, does_of}
use Rattle.actions.specs.Records.{names_of, body_of, act_at, read_at as actions_read_at}
use Rattle.synchronizer.specs.Wires.{joined, lanes_of, wires_of, is_root, around_of}
use Rattle.counts.specs.Counts.{children_have}
use Rattle.synchronizer.specs.Answer.{stands_in, starts_round, count_answer, senders_have, every_has, queue_answer, own_in, legal_answer, need_answer, answer_in}
use Rattle.synchronizer.specs.After.{mean_heard, effect_in, counted, after_in}
use Rattle.synchronizer.specs.Start.{fresh_with, start_of}
use Rattle.synchronizer.specs.Entry.{in_range, done_in, done_of, acted_as, record_in, act_in, act_of, list_from, list_of}
use Rattle.laws.proofs.Choice.{if_b_yes, both_yes}
use Rattle.network.specs.declared.Network.{Network}
use Rattle.queue.specs.Queue.{head_of, packet_first, ack_first, room_answer, pushed, moved_up, popped, heard_in}
use Rattle.synchronizer.specs.declared.Done.{Done}
use Rattle.synchronizer.proofs.Keeps.{start_valid}
use Rattle.guarantees.specs.Trials.{Trial, End, ended, given, starred, P-whole-round, P-up-before-down, worked}
use Rattle.guarantees.specs.Trials.{T-lockstep, P-lockstep-1, P-lockstep-2, P-lockstep-3, early_packet, ok_with_no_ack, second_output_of_1, second_output_of_2, packet_0_to_2, node_7}

-- from the start state of a valid network the list is run with no further look at 17
pub from_start : (net : Network) (bytes : List ℕ) → length net.starts ≡ 64 → valid_network net ≡ true → list_of net (start_of net).state bytes ≡ list_from (suc (length bytes)) (wires_of net) (fresh_with net.starts) bytes 0 0
unfolding list_of in_range start_of
from_start net bytes l v =
    if_b_yes _ _ _ (both_yes _ _ v (start_valid net l v).0)
    ∙ ap (λ s. list_from (suc (length bytes)) (wires_of net) s bytes 0 0) (ap (λ (d : Done). d.state) (if_b_yes (valid_network net) _ _ v))

quick : Trial → End
quick t =
    let net : Network = (plan_of t.plan).network in
    ended (plan_of t.plan) t.actions t.rounds (list_from (suc (length t.actions)) (wires_of net) (fresh_with net.starts) t.actions 0 0)

quick_is : (t : Trial) → length (plan_of t.plan).network.starts ≡ 64 → valid_network (plan_of t.plan).network ≡ true → quick t ≡ t.ends → given t ≡ t.ends
unfolding given quick
quick_is t l v e = ap (ended (plan_of t.plan) t.actions t.rounds) (from_start (plan_of t.plan).network t.actions l v) ∙ e

-- every entry of a list of trials ends as it says
abbrev pub Holds : List Trial → Type 0
Holds [] = Unit {0}
Holds (t ∷ ts) = (given t ≡ t.ends) × Holds ts

pub starred_hold : Holds starred
unfolding given quick ended if_b if_lt if_eq both all_below sum_below count_below fold_below first_of over_below list_below pick_below total digit member inserted removed size_of lowest_of all_in sum_in members_of values_in towards link_gives link_set child_set with_sets added linked adopted within_limits node_fits rises link_fits link_rises link_stands agrees valid_network body_length record_at records_read_at rounds_rule node_rule follows_of link_rule end_rule zero_network rounds_added node_added link_added turn lists_from lists_of pair_is joins link_between has_link climb root_of root_from depth_from depth_of LeadsIn untied first_untied Tied first_lost roots_of root_at inside first_inside chosen preferred_between not_one first_not_one cluster_count cluster_of JoinsTwo PairHasOne follow across pass joined_marks first_unjoined checks_of plan_of share_of rule_of mean_of next_by round_by rounds_by lockstep_of table_number table_of number_of index_of kind_at cell_of place_of own_of knows_by may_go_by need_of every_of does_of names_of body_of act_at actions_read_at joined lanes_of wires_of is_root around_of stands_in starts_round count_answer children_have senders_have every_has head_of packet_first ack_first room_answer queue_answer own_in legal_answer need_answer answer_in pushed moved_up popped heard_in mean_heard effect_in counted after_in fresh_with start_of in_range done_in done_of acted_as record_in act_in act_of list_from list_of
starred_hold = (
  quick_is T-lockstep refl refl refl,
  (
    quick_is P-lockstep-1 refl refl refl,
    (
      quick_is P-lockstep-2 refl refl refl,
      (
        quick_is P-lockstep-3 refl refl refl,
        (
          quick_is early_packet refl refl refl,
          (
            quick_is ok_with_no_ack refl refl refl,
            (
              quick_is second_output_of_1 refl refl refl,
              (
                quick_is second_output_of_2 refl refl refl,
                (
                  quick_is packet_0_to_2 refl refl refl,
                  (
                    quick_is node_7 refl refl refl,
                    (
                      refl,
                      (
                        refl,
                        (
                          refl,
                          tt,
                        ),
                      ),
                    ),
                  ),
                ),
              ),
            ),
          ),
        ),
      ),
    ),
  ),
)

pub worked_hold : Holds worked
unfolding given quick ended if_b if_lt if_eq both all_below sum_below count_below fold_below first_of over_below list_below pick_below total digit member inserted removed size_of lowest_of all_in sum_in members_of values_in towards link_gives link_set child_set with_sets added linked adopted within_limits node_fits rises link_fits link_rises link_stands agrees valid_network body_length record_at records_read_at rounds_rule node_rule follows_of link_rule end_rule zero_network rounds_added node_added link_added turn lists_from lists_of pair_is joins link_between has_link climb root_of root_from depth_from depth_of LeadsIn untied first_untied Tied first_lost roots_of root_at inside first_inside chosen preferred_between not_one first_not_one cluster_count cluster_of JoinsTwo PairHasOne follow across pass joined_marks first_unjoined checks_of plan_of share_of rule_of mean_of next_by round_by rounds_by lockstep_of table_number table_of number_of index_of kind_at cell_of place_of own_of knows_by may_go_by need_of every_of does_of names_of body_of act_at actions_read_at joined lanes_of wires_of is_root around_of stands_in starts_round count_answer children_have senders_have every_has head_of packet_first ack_first room_answer queue_answer own_in legal_answer need_answer answer_in pushed moved_up popped heard_in mean_heard effect_in counted after_in fresh_with start_of in_range done_in done_of acted_as record_in act_in act_of list_from list_of
worked_hold = (quick_is P-whole-round refl refl refl, (quick_is P-up-before-down refl refl refl, tt))
