-- The limits, pinned from bytes on both sides: what is just inside is taken, and one more is not. A definition and its code that have a limit wrong in
-- the same way pass every other proof, and break here.
-- Assumes nothing.
use Prim.Native.Nat.{ℕ, zero, suc}
use native.Mathlib.Omega.{arith}
use mathlib.Core.Path.{◌≡◌, refl}
use mathlib.Core.List.{List, [], ◌∷◌, ◌++◌}
use lib.ListN.{replicate, length-replicate}
use Rattle.laws.specs.Choice.{if_b, if_lt, if_eq, both}
use Rattle.laws.specs.Below.{all_below, sum_below, count_below, fold_below, first_of, over_below, list_below, pick_below}
use Rattle.laws.specs.Lists.{total}
use Rattle.nodeset.specs.Marks.{digit, member, inserted, removed, size_of, lowest_of, all_in, sum_in, members_of, values_in}
use Rattle.network.specs.Sets.{towards, link_gives, link_set, child_set, with_sets, added, linked, adopted}
use Rattle.network.specs.Valid.{within_limits, node_fits, rises, link_fits, link_rises, link_stands, agrees, valid_network}
use Rattle.records.specs.Record.{body_length, record_at, read_at as records_read_at}
use Rattle.records.specs.Rules.{rounds_rule, node_rule, follows_of, link_rule, end_rule}
use Rattle.network.specs.Zeros.{zero_network}
use Rattle.records.specs.Reader.{rounds_added, node_added, link_added, turn, lists_from, lists_of}
use Rattle.links.specs.Links.{pair_is, joins, link_between, has_link}
use Rattle.tree.specs.Climb.{climb, root_of, root_from, depth_from, depth_of, LeadsIn}
use Rattle.tree.specs.Checks.{untied, first_untied, Tied, first_lost}
use Rattle.clusters.specs.Clusters.{roots_of, root_at, inside, first_inside, chosen, preferred_between, not_one, first_not_one, cluster_count, cluster_of, JoinsTwo, PairHasOne}
use Rattle.joined.specs.Joined.{follow, across, pass, joined_marks, first_unjoined}
use Rattle.plan.specs.Checks.{checks_of, plan_of}
use Rattle.laws.specs.Mean.{share_of, rule_of}
use Rattle.lockstep.specs.Rule.{mean_of}
use Rattle.lockstep.specs.Rounds.{next_by, round_by, rounds_by, lockstep_of}
use Rattle.lockstep.specs.Table.{table_number, table_of}
use Rattle.actions.specs.Kinds.{number_of, index_of, kind_at, cell_of}
use Rattle.actions.specs.Table.{place_of, own_of, knows_by, may_go_by, need_of, every_of, does_of}
use Rattle.actions.specs.Records.{names_of, body_of, act_at, read_at as actions_read_at}
use Rattle.synchronizer.specs.Wires.{joined, lanes_of, wires_of, is_root, around_of}
use Rattle.counts.specs.Counts.{children_have}
use Rattle.synchronizer.specs.Answer.{stands_in, starts_round, count_answer, senders_have, every_has, queue_answer, own_in, legal_answer, need_answer, answer_in}
use Rattle.synchronizer.specs.After.{mean_heard, effect_in, counted, after_in}
use Rattle.synchronizer.specs.Start.{fresh_with, start_of}
use Rattle.synchronizer.specs.Entry.{in_range, done_in, done_of, acted_as, record_in, act_in, act_of, list_from, list_of}
use Rattle.queue.specs.Queue.{head_of, packet_first, ack_first, room_answer, pushed, moved_up, popped, heard_in}
use Rattle.actions.specs.declared.Kind.TheVariants.{AckSent}
use Rattle.records.specs.declared.Record.{Record}
use Rattle.records.specs.Keeps.{EachKeeps, with_all, records_bytes, BreaksAt, BreaksFirst}
use Rattle.plan.specs.Accepted.{Refused}
use Rattle.text.specs.Lines.{glyph, digits_in, decimal, fields, line}
use Rattle.report.specs.Report.{text_of}
use Rattle.guarantees.proofs.Witnesses.{full}
use Rattle.guarantees.proofs.Exact.{T, by_method}
use Rattle.guarantees.proofs.Promised.{text_too_long, text_refused}

-- ---- "Nodes 1 to 64, links 0 to 128", "rounds, 1 to 10,000"

-- n nodes from number k on, each a child of node 0
unfoldable pub leaves : ℕ → ℕ → List ℕ
leaves zero k = []
leaves (suc n) k = 2 ∷ k ∷ 0 ∷ 0 ∷ 0 ∷ leaves n (suc k)

-- n ordinary links from node a to the nodes from number k on
unfoldable pub fan : ℕ → ℕ → ℕ → List ℕ
fan a zero k = []
fan a (suc n) k = 3 ∷ a ∷ k ∷ 0 ∷ fan a n (suc k)

-- one cluster of so many nodes with 125 links of the nodes 0 and 1 and so many of node 2
abbrev pub plant : ℕ → ℕ → List ℕ
plant nodes more = 1 ∷ 0 ∷ 1 ∷ leaves nodes 0 ++ fan 0 63 1 ++ fan 1 62 2 ++ fan 2 more 3 ++ 0 ∷ []

-- one node, and rounds by their two bytes
abbrev pub lasting : ℕ → ℕ → List ℕ
lasting high low = 1 ∷ high ∷ low ∷ 2 ∷ 0 ∷ 0 ∷ 0 ∷ 0 ∷ 0 ∷ []

pub record Limits : Type 0 where
  -- by the rules 1 to 5; the walks over so large a plan are too long to compute here, and sample `plant-64` runs them
  pub nodes_64_links_128 : (lists_of (plant 64 3)).number ≡ 0
  pub nodes_65 : (lists_of (plant 65 3)).number ≡ 4
  pub links_129 : (lists_of (plant 64 4)).number ≡ 4
  pub rounds_10000 : (plan_of (lasting 39 16)).number ≡ 0
  pub rounds_10001 : (plan_of (lasting 39 17)).number ≡ 5
  pub rounds_0 : (plan_of (lasting 0 0)).number ≡ 5

pub limits : Limits
unfolding leaves fan if_b if_lt if_eq both all_below sum_below count_below fold_below first_of over_below list_below pick_below total digit member inserted removed size_of lowest_of all_in sum_in members_of values_in towards link_gives link_set child_set with_sets added linked adopted within_limits node_fits rises link_fits link_rises link_stands agrees valid_network body_length record_at records_read_at rounds_rule node_rule follows_of link_rule end_rule zero_network rounds_added node_added link_added turn lists_from lists_of pair_is joins link_between has_link climb root_of root_from depth_from depth_of LeadsIn untied first_untied Tied first_lost roots_of root_at inside first_inside chosen preferred_between not_one first_not_one cluster_count cluster_of JoinsTwo PairHasOne follow across pass joined_marks first_unjoined checks_of plan_of share_of rule_of mean_of next_by round_by rounds_by lockstep_of table_number table_of number_of index_of kind_at cell_of place_of own_of knows_by may_go_by need_of every_of does_of names_of body_of act_at actions_read_at joined lanes_of wires_of is_root around_of stands_in starts_round count_answer children_have senders_have every_has head_of packet_first ack_first room_answer queue_answer own_in legal_answer need_answer answer_in pushed moved_up popped heard_in mean_heard effect_in counted after_in fresh_with start_of in_range done_in done_of acted_as record_in act_in act_of list_from list_of
limits = record { nodes_64_links_128 = refl; nodes_65 = refl; links_129 = refl; rounds_10000 = refl; rounds_10001 = refl; rounds_0 = refl }

-- ---- "input longer than 65,536 bytes"

-- kind 0 with no rounds is refused by 3 at place 0, whatever follows
begins_with_0 : (rest : List ℕ) → Refused (0 ∷ rest) 3 0
unfolding EachKeeps with_all records_bytes
begins_with_0 rest =
    Refused.by_record
    (record { before = []; keep = tt; within = omega arith; bytes = refl; breaks = BreaksAt.whole Record.End refl (BreaksFirst.order refl (λ h. omega arith)) })

-- 65,536 bytes are judged: "end 3 0"
pub longest_is_judged : text_of (0 ∷ replicate 65535 0) ≡ 101 ∷ 110 ∷ 100 ∷ 32 ∷ 51 ∷ 32 ∷ 48 ∷ 10 ∷ []
unfolding glyph digits_in decimal fields line if_lt if_b
longest_is_judged =
    text_refused (0 ∷ replicate 65535 0) (omega (arith, length-replicate {A = ℕ} 65535 0)) 3 0 (omega arith) (begins_with_0 (replicate 65535 0))

-- 65,537 are not looked at: "end 19 65536"
pub one_more_is_not : text_of (0 ∷ replicate 65536 0) ≡ 101 ∷ 110 ∷ 100 ∷ 32 ∷ 49 ∷ 57 ∷ 32 ∷ 54 ∷ 53 ∷ 53 ∷ 51 ∷ 54 ∷ 10 ∷ []
unfolding glyph digits_in decimal fields line if_lt if_b
one_more_is_not = text_too_long (0 ∷ replicate 65536 0) (omega (arith, length-replicate {A = ℕ} 65536 0))

-- ---- "13, 14, 15, 16, 18"

-- two messages wait from 0 to 1, and no packet from 1 to 0 was delivered: the ack is refused by 16, not by 18
pub need_before_room : (done_of T full AckSent 0 1).answer ≡ 16
unfolding full if_b if_lt if_eq both all_below sum_below count_below fold_below first_of over_below list_below pick_below total digit member inserted removed size_of lowest_of all_in sum_in members_of values_in towards link_gives link_set child_set with_sets added linked adopted within_limits node_fits rises link_fits link_rises link_stands agrees valid_network body_length record_at records_read_at rounds_rule node_rule follows_of link_rule end_rule zero_network rounds_added node_added link_added turn lists_from lists_of pair_is joins link_between has_link climb root_of root_from depth_from depth_of LeadsIn untied first_untied Tied first_lost roots_of root_at inside first_inside chosen preferred_between not_one first_not_one cluster_count cluster_of JoinsTwo PairHasOne follow across pass joined_marks first_unjoined checks_of plan_of share_of rule_of mean_of next_by round_by rounds_by lockstep_of table_number table_of number_of index_of kind_at cell_of place_of own_of knows_by may_go_by need_of every_of does_of names_of body_of act_at actions_read_at joined lanes_of wires_of is_root around_of stands_in starts_round count_answer children_have senders_have every_has head_of packet_first ack_first room_answer queue_answer own_in legal_answer need_answer answer_in pushed moved_up popped heard_in mean_heard effect_in counted after_in fresh_with start_of in_range done_in done_of acted_as record_in act_in act_of list_from list_of
need_before_room = by_method AckSent 0 1 16 refl
