-- Each number that an entry point may answer is answered by some input: demand 1's lists are no longer than they must be.
-- Assumes nothing.
use Prim.Native.Nat.{ℕ, zero, suc, ◌*◌}
use mathlib.Core.Path.{◌≡◌, refl, ◌∙◌, ap}
use mathlib.Core.Bool.{true}
use mathlib.Core.List.{List, [], ◌∷◌}
use lib.ListN.{length}
use Rattle.laws.specs.Choice.{if_b, if_lt, if_eq, both}
use Rattle.laws.specs.Below.{all_below, sum_below, count_below, fold_below, first_of, over_below, list_below, pick_below}
use Rattle.laws.specs.Lists.{total}
use Rattle.nodeset.specs.Marks.{digit, member, inserted, removed, size_of, lowest_of, all_in, sum_in, members_of, values_in}
use Rattle.network.specs.Sets.{towards, link_gives, link_set, child_set, with_sets, added, linked, adopted}
use Rattle.network.specs.Valid.{within_limits, node_fits, rises, link_fits, link_rises, link_stands, agrees, valid_network}
use Rattle.records.specs.Record.{body_length, record_at, read_at as records_read_at}
use Rattle.records.specs.Rules.{rounds_rule, node_rule, follows_of, link_rule, end_rule}
use Rattle.network.specs.Zeros.{zero_network}
use Rattle.records.specs.Reader.{rounds_added, node_added, link_added, turn, lists_from, lists_of}
use Rattle.links.specs.Links.{pair_is, joins, link_between, has_link}
use Rattle.tree.specs.Climb.{climb, root_of, root_from, depth_from, depth_of, LeadsIn}
use Rattle.tree.specs.Checks.{untied, first_untied, Tied, first_lost}
use Rattle.clusters.specs.Clusters.{roots_of, root_at, inside, first_inside, chosen, preferred_between, not_one, first_not_one, cluster_count, cluster_of, JoinsTwo, PairHasOne}
use Rattle.joined.specs.Joined.{follow, across, pass, joined_marks, first_unjoined}
use Rattle.plan.specs.Checks.{checks_of, plan_of}
use Rattle.laws.specs.Mean.{share_of, rule_of}
use Rattle.lockstep.specs.Rule.{mean_of}
use Rattle.lockstep.specs.Rounds.{next_by, round_by, rounds_by, lockstep_of}
use Rattle.lockstep.specs.Table.{table_number, table_of}
use Rattle.actions.specs.Kinds.{number_of, index_of, kind_at, cell_of}
use Rattle.actions.specs.Table.{place_of, own_of, knows_by, may_go_by, need_of, every_of, does_of}
use Rattle.actions.specs.Records.{names_of, body_of, act_at, read_at as actions_read_at}
use Rattle.synchronizer.specs.Wires.{joined, lanes_of, wires_of, is_root, around_of}
use Rattle.counts.specs.Counts.{children_have}
use Rattle.synchronizer.specs.Answer.{stands_in, starts_round, count_answer, senders_have, every_has, queue_answer, own_in, legal_answer, need_answer, answer_in}
use Rattle.synchronizer.specs.After.{mean_heard, effect_in, counted, after_in}
use Rattle.synchronizer.specs.Start.{fresh_with, start_of}
use Rattle.synchronizer.specs.Entry.{in_range, done_in, done_of, acted_as, record_in, act_in, act_of, list_from, list_of}
use lib.ListN.{set, replicate}
use Rattle.actions.specs.declared.Kind.TheVariants.{Output, PacketSent}
use Rattle.actions.specs.Kinds.{count, kinds}
use Rattle.queue.specs.Queue.{head_of, packet_first, ack_first, room_answer, pushed, moved_up, popped, heard_in}
use Rattle.synchronizer.specs.declared.State.{State}
use Rattle.synchronizer.specs.declared.Ran.{Ran}
use Rattle.synchronizer.specs.After.{state_of}
use Rattle.synchronizer.specs.Answer.{answer_of}
use Rattle.guarantees.specs.Trials.{plan_t, pair}
use Rattle.guarantees.proofs.Trials.{from_start}

-- the first n nodes, each a root
unfoldable pub roots : ℕ → ℕ → List ℕ
roots zero k = []
roots (suc n) k = 2 ∷ k ∷ k ∷ 0 ∷ 0 ∷ roots n (suc k)

pub record PlanWitnesses : Type 0 where
  pub accepted : (plan_of (plan_t 1)).number ≡ 0
  pub unknown : (plan_of (4 ∷ [])).number ≡ 1
  pub cut_short_lem : (plan_of (1 ∷ 0 ∷ [])).number ≡ 2
  pub out_of_order_lem : (plan_of []).number ≡ 3
  pub too_many_lem : (plan_of (1 ∷ 0 ∷ 1 ∷ roots 65 0)).number ≡ 4
  pub out_of_range_lem : (plan_of (1 ∷ 0 ∷ 0 ∷ [])).number ≡ 5
  pub untied : (plan_of (pair 1 1 [])).number ≡ 6
  pub lost : (plan_of (pair 1 0 (3 ∷ 0 ∷ 1 ∷ 0 ∷ []))).number ≡ 7
  pub inside : (plan_of (pair 0 0 (3 ∷ 0 ∷ 1 ∷ 1 ∷ []))).number ≡ 8
  pub not_one_lem : (plan_of (pair 0 1 (3 ∷ 0 ∷ 1 ∷ 0 ∷ []))).number ≡ 9
  pub unjoined : (plan_of (pair 0 1 [])).number ≡ 10

pub plan_witnesses : PlanWitnesses
unfolding roots if_b if_lt if_eq both all_below sum_below count_below fold_below first_of over_below list_below pick_below total digit member inserted removed size_of lowest_of all_in sum_in members_of values_in towards link_gives link_set child_set with_sets added linked adopted within_limits node_fits rises link_fits link_rises link_stands agrees valid_network body_length record_at records_read_at rounds_rule node_rule follows_of link_rule end_rule zero_network rounds_added node_added link_added turn lists_from lists_of pair_is joins link_between has_link climb root_of root_from depth_from depth_of LeadsIn untied first_untied Tied first_lost roots_of root_at inside first_inside chosen preferred_between not_one first_not_one cluster_count cluster_of JoinsTwo PairHasOne follow across pass joined_marks first_unjoined checks_of plan_of share_of rule_of mean_of next_by round_by rounds_by lockstep_of table_number table_of number_of index_of kind_at cell_of place_of own_of knows_by may_go_by need_of every_of does_of names_of body_of act_at actions_read_at joined lanes_of wires_of is_root around_of stands_in starts_round count_answer children_have senders_have every_has head_of packet_first ack_first room_answer queue_answer own_in legal_answer need_answer answer_in pushed moved_up popped heard_in mean_heard effect_in counted after_in fresh_with start_of in_range done_in done_of acted_as record_in act_in act_of list_from list_of
plan_witnesses =
    record {
      accepted = refl;
      unknown = refl;
      cut_short_lem = refl;
      out_of_order_lem = refl;
      too_many_lem = refl;
      out_of_range_lem = refl;
      untied = refl;
      lost = refl;
      inside = refl;
      not_one_lem = refl;
      unjoined = refl;
    }

-- a list from the start state of plan T with one round
abbrev pub listed : List ℕ → ℕ
listed bytes = (list_of (plan_of (plan_t 1)).network (start_of (plan_of (plan_t 1)).network).state bytes).answer

listed_is : (bytes : List ℕ) (k : ℕ) → length (plan_of (plan_t 1)).network.starts ≡ 64 → valid_network (plan_of (plan_t 1)).network ≡ true
    → (list_from (suc (length bytes)) (wires_of (plan_of (plan_t 1)).network) (fresh_with (plan_of (plan_t 1)).network.starts) bytes 0 0).answer ≡ k
    → listed bytes ≡ k
listed_is bytes k l v e = ap (λ (r : Ran). r.answer) (from_start (plan_of (plan_t 1)).network bytes l v) ∙ e

-- a state of plan T in which node 0 has output and two messages wait from 0 to 1
unfoldable pub full : State
full =
    state_of (set (replicate (length kinds * 256) 0) (cell_of (count Output 0)) 1) (set (replicate 256 0) 0 2)
    (set (set (replicate 512 0) 0 1) 1 1) (replicate 512 0) (replicate 512 0) (replicate 64 0)

pub record ActionWitnesses : Type 0 where
  pub taken : listed (16 ∷ 0 ∷ []) ≡ 0
  pub unknown : listed (15 ∷ []) ≡ 11
  pub cut_short_lem : listed (16 ∷ []) ≡ 12
  pub no_node : listed (16 ∷ 7 ∷ []) ≡ 13
  pub no_parent : listed (22 ∷ 0 ∷ []) ≡ 14
  pub after_the_last_round : listed (16 ∷ 0 ∷ 16 ∷ 0 ∷ []) ≡ 15
  pub need_missing : listed (21 ∷ 0 ∷ []) ≡ 16
  pub out_of_range_lem : (list_of zero_network full []).answer ≡ 17
  pub queue_full : answer_of (plan_of (plan_t 1)).network full PacketSent 0 1 ≡ 18

pub action_witnesses : ActionWitnesses
unfolding full if_b if_lt if_eq both all_below sum_below count_below fold_below first_of over_below list_below pick_below total digit member inserted removed size_of lowest_of all_in sum_in members_of values_in towards link_gives link_set child_set with_sets added linked adopted within_limits node_fits rises link_fits link_rises link_stands agrees valid_network body_length record_at records_read_at rounds_rule node_rule follows_of link_rule end_rule zero_network rounds_added node_added link_added turn lists_from lists_of pair_is joins link_between has_link climb root_of root_from depth_from depth_of LeadsIn untied first_untied Tied first_lost roots_of root_at inside first_inside chosen preferred_between not_one first_not_one cluster_count cluster_of JoinsTwo PairHasOne follow across pass joined_marks first_unjoined checks_of plan_of share_of rule_of mean_of next_by round_by rounds_by lockstep_of table_number table_of number_of index_of kind_at cell_of place_of own_of knows_by may_go_by need_of every_of does_of names_of body_of act_at actions_read_at joined lanes_of wires_of is_root around_of stands_in starts_round count_answer children_have senders_have every_has head_of packet_first ack_first room_answer queue_answer own_in legal_answer need_answer answer_in pushed moved_up popped heard_in mean_heard effect_in counted after_in fresh_with start_of in_range done_in done_of acted_as record_in act_in act_of list_from list_of
action_witnesses =
    record {
      taken = listed_is (16 ∷ 0 ∷ []) 0 refl refl refl;
      unknown = listed_is (15 ∷ []) 11 refl refl refl;
      cut_short_lem = listed_is (16 ∷ []) 12 refl refl refl;
      no_node = listed_is (16 ∷ 7 ∷ []) 13 refl refl refl;
      no_parent = listed_is (22 ∷ 0 ∷ []) 14 refl refl refl;
      after_the_last_round = listed_is (16 ∷ 0 ∷ 16 ∷ 0 ∷ []) 15 refl refl refl;
      need_missing = listed_is (21 ∷ 0 ∷ []) 16 refl refl refl;
      out_of_range_lem = refl;
      queue_full = refl;
    }

pub record StartAndTableWitnesses : Type 0 where
  pub started : (start_of (plan_of (plan_t 1)).network).answer ≡ 0
  pub not_started : (start_of zero_network).answer ≡ 17
  pub tabled : table_number (plan_of (plan_t 1)).network 1 2 ≡ 0
  pub out_of_range_lem : table_number zero_network 0 0 ≡ 17
  pub too_many_rounds : table_number (plan_of (plan_t 1)).network 2 2 ≡ 20
  pub no_room_lem : table_number (plan_of (plan_t 1)).network 1 1 ≡ 21

pub start_and_table_witnesses : StartAndTableWitnesses
unfolding if_b if_lt if_eq both all_below sum_below count_below fold_below first_of over_below list_below pick_below total digit member inserted removed size_of lowest_of all_in sum_in members_of values_in towards link_gives link_set child_set with_sets added linked adopted within_limits node_fits rises link_fits link_rises link_stands agrees valid_network body_length record_at records_read_at rounds_rule node_rule follows_of link_rule end_rule zero_network rounds_added node_added link_added turn lists_from lists_of pair_is joins link_between has_link climb root_of root_from depth_from depth_of LeadsIn untied first_untied Tied first_lost roots_of root_at inside first_inside chosen preferred_between not_one first_not_one cluster_count cluster_of JoinsTwo PairHasOne follow across pass joined_marks first_unjoined checks_of plan_of share_of rule_of mean_of next_by round_by rounds_by lockstep_of table_number table_of number_of index_of kind_at cell_of place_of own_of knows_by may_go_by need_of every_of does_of names_of body_of act_at actions_read_at joined lanes_of wires_of is_root around_of stands_in starts_round count_answer children_have senders_have every_has head_of packet_first ack_first room_answer queue_answer own_in legal_answer need_answer answer_in pushed moved_up popped heard_in mean_heard effect_in counted after_in fresh_with start_of in_range done_in done_of acted_as record_in act_in act_of list_from list_of
start_and_table_witnesses =
    record { started = refl; not_started = refl; tabled = refl; out_of_range_lem = refl; too_many_rounds = refl; no_room_lem = refl }
