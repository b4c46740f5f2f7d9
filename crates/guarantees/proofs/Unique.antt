-- Any two results that a public function's contract allows are equal, and so are the contents of a lent buffer. The statements are over each
-- contract as the checker generates it (`Post` of the function's `Reads`), so that a loosened contract breaks its line here.
-- Assumes nothing.
use Prim.Native.Nat.{ℕ}
use mathlib.Core.Path.{◌≡◌, refl, sym, ◌∙◌, ap}
use mathlib.Core.List.{List}
use contract.Lifetimes.{Lfts}
use denote.Triple.Clauses.{AtExit}
use borrow.Fn.Kinds.{ParamKind, ResultKind, Out, Dens, res_t, ended_of}
use Rattle.std.proofs.Common.{Option, Some, None}
use Rattle.laws.proofs.Choice.{true_not_false}
use Rattle.nodeset.specs.Marks.{member, removed}
use Rattle.nodeset.specs.Walks.{takes_lowest}
use Rattle.nodeset.proofs.Marks.{empty_has_none}
use Rattle.records.proofs.Planned.{planned_of-injective, handed_of-injective}
use Rattle.layout.proofs.Laid.{laid_of-injective}
use Rattle.answers.proofs.Named.{answer_of-injective}
use Rattle.queue.specs.declared.Queues.{Queues}
use Rattle.answers.proofs.Refusal.number.Kinds as answers_number_kinds
use Rattle.answers.proofs.Refusal.number.Reads as answers_number_reads
use Rattle.nodeset.proofs.NodeSet.members.Kinds as nodeset_members_kinds
use Rattle.nodeset.proofs.NodeSet.members.Reads as nodeset_members_reads
use Rattle.nodeset.proofs.NodeSet.contains.Kinds as nodeset_contains_kinds
use Rattle.nodeset.proofs.NodeSet.contains.Reads as nodeset_contains_reads
use Rattle.nodeset.proofs.NodeSet.insert.Kinds as nodeset_insert_kinds
use Rattle.nodeset.proofs.NodeSet.insert.Reads as nodeset_insert_reads
use Rattle.nodeset.proofs.NodeSet.remove.Kinds as nodeset_remove_kinds
use Rattle.nodeset.proofs.NodeSet.remove.Reads as nodeset_remove_reads
use Rattle.nodeset.proofs.NodeSet.size.Kinds as nodeset_size_kinds
use Rattle.nodeset.proofs.NodeSet.size.Reads as nodeset_size_reads
use Rattle.nodeset.proofs.NodeSet.lowest.Kinds as nodeset_lowest_kinds
use Rattle.nodeset.proofs.NodeSet.lowest.Reads as nodeset_lowest_reads
use Rattle.nodeset.proofs.NodeSet.without_lowest.Kinds as nodeset_without_lowest_kinds
use Rattle.nodeset.proofs.NodeSet.without_lowest.Reads as nodeset_without_lowest_reads
use Rattle.nodeset.proofs.WalkIterator.next.Kinds as nodeset_next_kinds
use Rattle.nodeset.proofs.WalkIterator.next.Reads as nodeset_next_reads
use Rattle.network.proofs.Network.with_sets.Kinds as network_with_sets_kinds
use Rattle.network.proofs.Network.with_sets.Reads as network_with_sets_reads
use Rattle.network.proofs.Network.valid.Kinds as network_valid_kinds
use Rattle.network.proofs.Network.valid.Reads as network_valid_reads
use Rattle.network.proofs.pair_rises.Kinds as network_pair_rises_kinds
use Rattle.network.proofs.pair_rises.Reads as network_pair_rises_reads
use Rattle.network.proofs.zeros.Kinds as network_zeros_kinds
use Rattle.network.proofs.zeros.Reads as network_zeros_reads
use Rattle.records.proofs.Cursor.read.Kinds as records_read_kinds
use Rattle.records.proofs.Cursor.read.Reads as records_read_reads
use Rattle.records.proofs.read_lists.Kinds as records_read_lists_kinds
use Rattle.records.proofs.read_lists.Reads as records_read_lists_reads
use Rattle.records.proofs.read_lists_into.Kinds as records_read_lists_into_kinds
use Rattle.records.proofs.read_lists_into.Reads as records_read_lists_into_reads
use Rattle.links.proofs.joins.Kinds as links_joins_kinds
use Rattle.links.proofs.joins.Reads as links_joins_reads
use Rattle.links.proofs.has_link.Kinds as links_has_link_kinds
use Rattle.links.proofs.has_link.Reads as links_has_link_reads
use Rattle.tree.proofs.root_in.Kinds as tree_root_in_kinds
use Rattle.tree.proofs.root_in.Reads as tree_root_in_reads
use Rattle.tree.proofs.first_lost.Kinds as tree_first_lost_kinds
use Rattle.tree.proofs.first_lost.Reads as tree_first_lost_reads
use Rattle.tree.proofs.first_untied.Kinds as tree_first_untied_kinds
use Rattle.tree.proofs.first_untied.Reads as tree_first_untied_reads
use Rattle.clusters.proofs.first_inside.Kinds as clusters_first_inside_kinds
use Rattle.clusters.proofs.first_inside.Reads as clusters_first_inside_reads
use Rattle.clusters.proofs.first_not_one.Kinds as clusters_first_not_one_kinds
use Rattle.clusters.proofs.first_not_one.Reads as clusters_first_not_one_reads
use Rattle.clusters.proofs.root_table.Kinds as clusters_root_table_kinds
use Rattle.clusters.proofs.root_table.Reads as clusters_root_table_reads
use Rattle.clusters.proofs.root_at.Kinds as clusters_root_at_kinds
use Rattle.clusters.proofs.root_at.Reads as clusters_root_at_reads
use Rattle.clusters.proofs.count.Kinds as clusters_count_kinds
use Rattle.clusters.proofs.count.Reads as clusters_count_reads
use Rattle.joined.proofs.first_unjoined.Kinds as joined_first_unjoined_kinds
use Rattle.joined.proofs.first_unjoined.Reads as joined_first_unjoined_reads
use Rattle.claims.proofs.parents.Kinds as claims_parents_kinds
use Rattle.claims.proofs.parents.Reads as claims_parents_reads
use Rattle.layout.proofs.layout.Kinds as layout_layout_kinds
use Rattle.layout.proofs.layout.Reads as layout_layout_reads
use Rattle.answers.proofs.none_at.Kinds as answers_none_at_kinds
use Rattle.answers.proofs.none_at.Reads as answers_none_at_reads
use Rattle.plan.proofs.read_plan.Kinds as plan_read_plan_kinds
use Rattle.plan.proofs.read_plan.Reads as plan_read_plan_reads
use Rattle.plan.proofs.read_plan_into.Kinds as plan_read_plan_into_kinds
use Rattle.plan.proofs.read_plan_into.Reads as plan_read_plan_into_reads
use Rattle.lockstep.proofs.mean.Kinds as lockstep_mean_kinds
use Rattle.lockstep.proofs.mean.Reads as lockstep_mean_reads
use Rattle.lockstep.proofs.table.Kinds as lockstep_table_kinds
use Rattle.lockstep.proofs.table.Reads as lockstep_table_reads
use Rattle.actions.proofs.KindTryFromU8.try_from.Kinds as actions_try_from_kinds
use Rattle.actions.proofs.KindTryFromU8.try_from.Reads as actions_try_from_reads
use Rattle.actions.proofs.number.Kinds as actions_number_kinds
use Rattle.actions.proofs.number.Reads as actions_number_reads
use Rattle.actions.proofs.index.Kinds as actions_index_kinds
use Rattle.actions.proofs.index.Reads as actions_index_reads
use Rattle.actions.proofs.cell.Kinds as actions_cell_kinds
use Rattle.actions.proofs.cell.Reads as actions_cell_reads
use Rattle.actions.proofs.place_of.Kinds as actions_place_of_kinds
use Rattle.actions.proofs.place_of.Reads as actions_place_of_reads
use Rattle.actions.proofs.own_of.Kinds as actions_own_of_kinds
use Rattle.actions.proofs.own_of.Reads as actions_own_of_reads
use Rattle.actions.proofs.knows.Kinds as actions_knows_kinds
use Rattle.actions.proofs.knows.Reads as actions_knows_reads
use Rattle.actions.proofs.may_go.Kinds as actions_may_go_kinds
use Rattle.actions.proofs.may_go.Reads as actions_may_go_reads
use Rattle.actions.proofs.need_of.Kinds as actions_need_of_kinds
use Rattle.actions.proofs.need_of.Reads as actions_need_of_reads
use Rattle.actions.proofs.every_of.Kinds as actions_every_of_kinds
use Rattle.actions.proofs.every_of.Reads as actions_every_of_reads
use Rattle.actions.proofs.does_of.Kinds as actions_does_of_kinds
use Rattle.actions.proofs.does_of.Reads as actions_does_of_reads
use Rattle.actions.proofs.bodies.Kinds as actions_bodies_kinds
use Rattle.actions.proofs.bodies.Reads as actions_bodies_reads
use Rattle.actions.proofs.read.Kinds as actions_read_kinds
use Rattle.actions.proofs.read.Reads as actions_read_reads
use Rattle.counts.proofs.below.Kinds as counts_below_kinds
use Rattle.counts.proofs.below.Reads as counts_below_reads
use Rattle.counts.proofs.above.Kinds as counts_above_kinds
use Rattle.counts.proofs.above.Reads as counts_above_reads
use Rattle.counts.proofs.children_have.Kinds as counts_children_have_kinds
use Rattle.counts.proofs.children_have.Reads as counts_children_have_reads
use Rattle.queue.proofs.Queues.first.Kinds as queue_first_kinds
use Rattle.queue.proofs.Queues.first.Reads as queue_first_reads
use Rattle.queue.proofs.Queues.packet_first.Kinds as queue_packet_first_kinds
use Rattle.queue.proofs.Queues.packet_first.Reads as queue_packet_first_reads
use Rattle.queue.proofs.Queues.ack_first.Kinds as queue_ack_first_kinds
use Rattle.queue.proofs.Queues.ack_first.Reads as queue_ack_first_reads
use Rattle.queue.proofs.Queues.room.Kinds as queue_room_kinds
use Rattle.queue.proofs.Queues.room.Reads as queue_room_reads
use Rattle.queue.proofs.Queues.push.Kinds as queue_push_kinds
use Rattle.queue.proofs.Queues.push.Reads as queue_push_reads
use Rattle.queue.proofs.Queues.send.Kinds as queue_send_kinds
use Rattle.queue.proofs.Queues.send.Reads as queue_send_reads
use Rattle.queue.proofs.Queues.pop.Kinds as queue_pop_kinds
use Rattle.queue.proofs.Queues.pop.Reads as queue_pop_reads
use Rattle.queue.proofs.Queues.deliver.Kinds as queue_deliver_kinds
use Rattle.queue.proofs.Queues.deliver.Reads as queue_deliver_reads
use Rattle.ranges.proofs.state_fits.Kinds as ranges_state_fits_kinds
use Rattle.ranges.proofs.state_fits.Reads as ranges_state_fits_reads
use Rattle.synchronizer.proofs.State.start.Kinds as synchronizer_start_kinds
use Rattle.synchronizer.proofs.State.start.Reads as synchronizer_start_reads
use Rattle.synchronizer.proofs.State.output.Kinds as synchronizer_output_kinds
use Rattle.synchronizer.proofs.State.output.Reads as synchronizer_output_reads
use Rattle.synchronizer.proofs.State.packet_sent.Kinds as synchronizer_packet_sent_kinds
use Rattle.synchronizer.proofs.State.packet_sent.Reads as synchronizer_packet_sent_reads
use Rattle.synchronizer.proofs.State.packet_delivered.Kinds as synchronizer_packet_delivered_kinds
use Rattle.synchronizer.proofs.State.packet_delivered.Reads as synchronizer_packet_delivered_reads
use Rattle.synchronizer.proofs.State.ack_sent.Kinds as synchronizer_ack_sent_kinds
use Rattle.synchronizer.proofs.State.ack_sent.Reads as synchronizer_ack_sent_reads
use Rattle.synchronizer.proofs.State.ack_delivered.Kinds as synchronizer_ack_delivered_kinds
use Rattle.synchronizer.proofs.State.ack_delivered.Reads as synchronizer_ack_delivered_reads
use Rattle.synchronizer.proofs.State.ok.Kinds as synchronizer_ok_kinds
use Rattle.synchronizer.proofs.State.ok.Reads as synchronizer_ok_reads
use Rattle.synchronizer.proofs.State.subtree_ok_sent.Kinds as synchronizer_subtree_ok_sent_kinds
use Rattle.synchronizer.proofs.State.subtree_ok_sent.Reads as synchronizer_subtree_ok_sent_reads
use Rattle.synchronizer.proofs.State.subtree_ok_delivered.Kinds as synchronizer_subtree_ok_delivered_kinds
use Rattle.synchronizer.proofs.State.subtree_ok_delivered.Reads as synchronizer_subtree_ok_delivered_reads
use Rattle.synchronizer.proofs.State.cluster_ok.Kinds as synchronizer_cluster_ok_kinds
use Rattle.synchronizer.proofs.State.cluster_ok.Reads as synchronizer_cluster_ok_reads
use Rattle.synchronizer.proofs.State.down_sent.Kinds as synchronizer_down_sent_kinds
use Rattle.synchronizer.proofs.State.down_sent.Reads as synchronizer_down_sent_reads
use Rattle.synchronizer.proofs.State.down_delivered.Kinds as synchronizer_down_delivered_kinds
use Rattle.synchronizer.proofs.State.down_delivered.Reads as synchronizer_down_delivered_reads
use Rattle.synchronizer.proofs.State.preferred_sent.Kinds as synchronizer_preferred_sent_kinds
use Rattle.synchronizer.proofs.State.preferred_sent.Reads as synchronizer_preferred_sent_reads
use Rattle.synchronizer.proofs.State.preferred_delivered.Kinds as synchronizer_preferred_delivered_kinds
use Rattle.synchronizer.proofs.State.preferred_delivered.Reads as synchronizer_preferred_delivered_reads
use Rattle.synchronizer.proofs.State.up_sent.Kinds as synchronizer_up_sent_kinds
use Rattle.synchronizer.proofs.State.up_sent.Reads as synchronizer_up_sent_reads
use Rattle.synchronizer.proofs.State.up_delivered.Kinds as synchronizer_up_delivered_kinds
use Rattle.synchronizer.proofs.State.up_delivered.Reads as synchronizer_up_delivered_reads
use Rattle.synchronizer.proofs.State.cluster_go.Kinds as synchronizer_cluster_go_kinds
use Rattle.synchronizer.proofs.State.cluster_go.Reads as synchronizer_cluster_go_reads
use Rattle.synchronizer.proofs.State.subtree_go_sent.Kinds as synchronizer_subtree_go_sent_kinds
use Rattle.synchronizer.proofs.State.subtree_go_sent.Reads as synchronizer_subtree_go_sent_reads
use Rattle.synchronizer.proofs.State.subtree_go_delivered.Kinds as synchronizer_subtree_go_delivered_kinds
use Rattle.synchronizer.proofs.State.subtree_go_delivered.Reads as synchronizer_subtree_go_delivered_reads
use Rattle.synchronizer.proofs.State.go.Kinds as synchronizer_go_kinds
use Rattle.synchronizer.proofs.State.go.Reads as synchronizer_go_reads
use Rattle.synchronizer.proofs.State.input.Kinds as synchronizer_input_kinds
use Rattle.synchronizer.proofs.State.input.Reads as synchronizer_input_reads
use Rattle.synchronizer.proofs.State.act.Kinds as synchronizer_act_kinds
use Rattle.synchronizer.proofs.State.act.Reads as synchronizer_act_reads
use Rattle.synchronizer.proofs.State.run.Kinds as synchronizer_run_kinds
use Rattle.synchronizer.proofs.State.run.Reads as synchronizer_run_reads
use Rattle.text.proofs.word.Kinds as text_word_kinds
use Rattle.text.proofs.word.Reads as text_word_reads
use Rattle.text.proofs.line.Kinds as text_line_kinds
use Rattle.text.proofs.line.Reads as text_line_reads
use Rattle.report.proofs.whole.Kinds as report_whole_kinds
use Rattle.report.proofs.whole.Reads as report_whole_reads
use Rattle.report.proofs.end_only.Kinds as report_end_only_kinds
use Rattle.report.proofs.end_only.Reads as report_end_only_reads
use Rattle.report.proofs.trial.Kinds as report_trial_kinds
use Rattle.report.proofs.trial.Reads as report_trial_reads
use Rattle.teravulk.proofs.teravulk_trial.Kinds as teravulk_trial_kinds
use Rattle.teravulk.proofs.teravulk_trial.Reads as teravulk_trial_reads
use Rattle.teravulk.proofs.teravulk_layout.Kinds as teravulk_layout_kinds
use Rattle.teravulk.proofs.teravulk_layout.Reads as teravulk_layout_reads
use Rattle.input.proofs.decimal.Kinds as input_decimal_kinds
use Rattle.input.proofs.decimal.Reads as input_decimal_reads
use Rattle.commands.proofs.word_of.Kinds as commands_word_of_kinds
use Rattle.commands.proofs.word_of.Reads as commands_word_of_reads
use Rattle.commands.proofs.layout.Kinds as commands_layout_kinds
use Rattle.commands.proofs.layout.Reads as commands_layout_reads

-- of the same arguments the contract allows one result
abbrev pub OneResult : (n : ℕ) (ps : List (ParamKind n)) (r : ResultKind n) → Out n ps r → Type 0
OneResult n ps r Post =
    (κs : Lfts n) (a : Dens κs ps) (x y : (res_t r κs).Denot) (s t : AtExit (ended_of n ps r) κs) → Post κs a x s → Post κs a y t → x ≡ y

-- .. and one content of what was lent
abbrev pub OneEnd : (n : ℕ) (ps : List (ParamKind n)) (r : ResultKind n) → Out n ps r → {C : Type 0} → ((κs : Lfts n) → AtExit (ended_of n ps r) κs → C) → Type 0
OneEnd n ps r Post content =
    (κs : Lfts n) (a : Dens κs ps) (x y : (res_t r κs).Denot) (s t : AtExit (ended_of n ps r) κs)
    → Post κs a x s
    → Post κs a y t
    → (x ≡ y) × (content κs s ≡ content κs t)

same : {A : Type 0} {x y z : A} → x ≡ z → y ≡ z → x ≡ y
same p q = p ∙ sym q

-- ---- nodeset

pub answers_number_one : OneResult _ answers_number_kinds.ps answers_number_kinds.r answers_number_reads.Post
answers_number_one κs a x y s t p q = same p q

pub nodeset_members_one : OneResult _ nodeset_members_kinds.ps nodeset_members_kinds.r nodeset_members_reads.Post
nodeset_members_one κs a x y s t p q = same p q

pub nodeset_contains_one : OneResult _ nodeset_contains_kinds.ps nodeset_contains_kinds.r nodeset_contains_reads.Post
nodeset_contains_one κs a x y s t p q = same p q

pub nodeset_insert_one : OneResult _ nodeset_insert_kinds.ps nodeset_insert_kinds.r nodeset_insert_reads.Post
nodeset_insert_one κs a x y s t p q = λ i. record { marks = same p q i }

pub nodeset_remove_one : OneResult _ nodeset_remove_kinds.ps nodeset_remove_kinds.r nodeset_remove_reads.Post
nodeset_remove_one κs a x y s t p q = λ i. record { marks = same p q i }

pub nodeset_size_one : OneResult _ nodeset_size_kinds.ps nodeset_size_kinds.r nodeset_size_reads.Post
nodeset_size_one κs a x y s t p q = same p q

pub nodeset_lowest_one : OneResult _ nodeset_lowest_kinds.ps nodeset_lowest_kinds.r nodeset_lowest_reads.Post
nodeset_lowest_one κs a x y s t p q = same p q

pub nodeset_without_lowest_one : OneResult _ nodeset_without_lowest_kinds.ps nodeset_without_lowest_kinds.r nodeset_without_lowest_reads.Post
nodeset_without_lowest_one κs a x y s t p q = λ i. record { marks = same p q i }

-- a step of a walk: the member taken, and what is left
one_taken : (left : ℕ) (x y : Option ℕ) (s t : ℕ) → takes_lowest left x s → takes_lowest left y t → (x ≡ y) × (s ≡ t)
one_taken left None None s t p q = (refl, same p.1 q.1)
one_taken left None (Some y) s t p q =
    absurd (true_not_false (member left y) q.is_in (ap (λ m. member m y) p.0 ∙ empty_has_none y))
one_taken left (Some x) None s t p q =
    absurd (true_not_false (member left x) p.is_in (ap (λ m. member m x) q.0 ∙ empty_has_none x))
one_taken left (Some x) (Some y) s t p q =
    let e : x ≡ y = same p.lowest q.lowest in
    (ap Some e, p.others ∙ ap (removed left) e ∙ sym q.others)

pub nodeset_next_one : OneEnd _ nodeset_next_kinds.ps nodeset_next_kinds.r nodeset_next_reads.Post (λ κs s. s.0.now)
nodeset_next_one κs a x y s t p q = one_taken a.0.now x y s.0.now t.0.now p.0 q.0

-- ---- network

pub network_with_sets_one : OneResult _ network_with_sets_kinds.ps network_with_sets_kinds.r network_with_sets_reads.Post
network_with_sets_one κs a x y s t p q = same p q

pub network_valid_one : OneResult _ network_valid_kinds.ps network_valid_kinds.r network_valid_reads.Post
network_valid_one κs a x y s t p q = same p q

pub network_pair_rises_one : OneResult _ network_pair_rises_kinds.ps network_pair_rises_kinds.r network_pair_rises_reads.Post
network_pair_rises_one κs a x y s t p q = same p q

pub network_zeros_one : OneResult _ network_zeros_kinds.ps network_zeros_kinds.r network_zeros_reads.Post
network_zeros_one κs a x y s t p q = same p q

-- ---- records

pub records_read_one : OneResult _ records_read_kinds.ps records_read_kinds.r records_read_reads.Post
records_read_one κs a x y s t p q = same p q

pub records_read_lists_one : OneResult _ records_read_lists_kinds.ps records_read_lists_kinds.r records_read_lists_reads.Post
records_read_lists_one κs a x y s t p q = planned_of-injective x y (same p q)

pub records_read_lists_into_one : OneEnd _ records_read_lists_into_kinds.ps records_read_lists_into_kinds.r records_read_lists_into_reads.Post (λ κs s. s.1.0.now)
records_read_lists_into_one κs a x y s t p q = handed_of-injective x y s.1.0.now t.1.0.now (same p q)

-- ---- links

pub links_joins_one : OneResult _ links_joins_kinds.ps links_joins_kinds.r links_joins_reads.Post
links_joins_one κs a x y s t p q = same p q

pub links_has_link_one : OneResult _ links_has_link_kinds.ps links_has_link_kinds.r links_has_link_reads.Post
links_has_link_one κs a x y s t p q = same p q

-- ---- tree

pub tree_root_in_one : OneResult _ tree_root_in_kinds.ps tree_root_in_kinds.r tree_root_in_reads.Post
tree_root_in_one κs a x y s t p q = same p q

pub tree_first_lost_one : OneResult _ tree_first_lost_kinds.ps tree_first_lost_kinds.r tree_first_lost_reads.Post
tree_first_lost_one κs a x y s t p q = same p q

pub tree_first_untied_one : OneResult _ tree_first_untied_kinds.ps tree_first_untied_kinds.r tree_first_untied_reads.Post
tree_first_untied_one κs a x y s t p q = same p q

-- ---- clusters

pub clusters_first_inside_one : OneResult _ clusters_first_inside_kinds.ps clusters_first_inside_kinds.r clusters_first_inside_reads.Post
clusters_first_inside_one κs a x y s t p q = same p q

pub clusters_first_not_one_one : OneResult _ clusters_first_not_one_kinds.ps clusters_first_not_one_kinds.r clusters_first_not_one_reads.Post
clusters_first_not_one_one κs a x y s t p q = same p q

pub clusters_root_table_one : OneResult _ clusters_root_table_kinds.ps clusters_root_table_kinds.r clusters_root_table_reads.Post
clusters_root_table_one κs a x y s t p q = same p q

pub clusters_root_at_one : OneResult _ clusters_root_at_kinds.ps clusters_root_at_kinds.r clusters_root_at_reads.Post
clusters_root_at_one κs a x y s t p q = same p q

pub clusters_count_one : OneResult _ clusters_count_kinds.ps clusters_count_kinds.r clusters_count_reads.Post
clusters_count_one κs a x y s t p q = same p q

-- ---- joined

pub joined_first_unjoined_one : OneResult _ joined_first_unjoined_kinds.ps joined_first_unjoined_kinds.r joined_first_unjoined_reads.Post
joined_first_unjoined_one κs a x y s t p q = same p q

-- ---- claims, layout

pub claims_parents_one : OneResult _ claims_parents_kinds.ps claims_parents_kinds.r claims_parents_reads.Post
claims_parents_one κs a x y s t p q = same p q

pub layout_layout_one : OneEnd _ layout_layout_kinds.ps layout_layout_kinds.r layout_layout_reads.Post (λ κs s. s.1.1.0.now)
layout_layout_one κs a x y s t p q = (laid_of-injective x y (same p.0 q.0), same p.1.0 q.1.0)

-- ---- plan

pub answers_none_at_one : OneResult _ answers_none_at_kinds.ps answers_none_at_kinds.r answers_none_at_reads.Post
answers_none_at_one κs a x y s t p q = same p q

pub plan_read_plan_one : OneResult _ plan_read_plan_kinds.ps plan_read_plan_kinds.r plan_read_plan_reads.Post
plan_read_plan_one κs a x y s t p q = planned_of-injective x y (same p.0 q.0)

pub plan_read_plan_into_one : OneEnd _ plan_read_plan_into_kinds.ps plan_read_plan_into_kinds.r plan_read_plan_into_reads.Post (λ κs s. s.1.0.now)
plan_read_plan_into_one κs a x y s t p q = handed_of-injective x y s.1.0.now t.1.0.now (same p.0 q.0)

-- ---- lockstep

pub lockstep_mean_one : OneResult _ lockstep_mean_kinds.ps lockstep_mean_kinds.r lockstep_mean_reads.Post
lockstep_mean_one κs a x y s t p q = same p q

pub lockstep_table_one : OneEnd _ lockstep_table_kinds.ps lockstep_table_kinds.r lockstep_table_reads.Post (λ κs s. s.1.1.0.now)
lockstep_table_one κs a x y s t p q = (answer_of-injective x y (same p.0.0 q.0.0), same p.0.1 q.0.1)

-- ---- actions

pub actions_try_from_one : OneResult _ actions_try_from_kinds.ps actions_try_from_kinds.r actions_try_from_reads.Post
actions_try_from_one κs a x y s t p q = same p q

pub actions_number_one : OneResult _ actions_number_kinds.ps actions_number_kinds.r actions_number_reads.Post
actions_number_one κs a x y s t p q = same p q

pub actions_index_one : OneResult _ actions_index_kinds.ps actions_index_kinds.r actions_index_reads.Post
actions_index_one κs a x y s t p q = same p.0 q.0

pub actions_cell_one : OneResult _ actions_cell_kinds.ps actions_cell_kinds.r actions_cell_reads.Post
actions_cell_one κs a x y s t p q = same p.0 q.0

pub actions_place_of_one : OneResult _ actions_place_of_kinds.ps actions_place_of_kinds.r actions_place_of_reads.Post
actions_place_of_one κs a x y s t p q = same p q

pub actions_own_of_one : OneResult _ actions_own_of_kinds.ps actions_own_of_kinds.r actions_own_of_reads.Post
actions_own_of_one κs a x y s t p q = same p q

pub actions_knows_one : OneResult _ actions_knows_kinds.ps actions_knows_kinds.r actions_knows_reads.Post
actions_knows_one κs a x y s t p q = same p q

pub actions_may_go_one : OneResult _ actions_may_go_kinds.ps actions_may_go_kinds.r actions_may_go_reads.Post
actions_may_go_one κs a x y s t p q = same p q

pub actions_need_of_one : OneResult _ actions_need_of_kinds.ps actions_need_of_kinds.r actions_need_of_reads.Post
actions_need_of_one κs a x y s t p q = same p q

pub actions_every_of_one : OneResult _ actions_every_of_kinds.ps actions_every_of_kinds.r actions_every_of_reads.Post
actions_every_of_one κs a x y s t p q = same p q

pub actions_does_of_one : OneResult _ actions_does_of_kinds.ps actions_does_of_kinds.r actions_does_of_reads.Post
actions_does_of_one κs a x y s t p q = same p q

pub actions_bodies_one : OneResult _ actions_bodies_kinds.ps actions_bodies_kinds.r actions_bodies_reads.Post
actions_bodies_one κs a x y s t p q = same p q

pub actions_read_one : OneResult _ actions_read_kinds.ps actions_read_kinds.r actions_read_reads.Post
actions_read_one κs a x y s t p q = same p q

-- ---- counts, queue, ranges

pub counts_below_one : OneResult _ counts_below_kinds.ps counts_below_kinds.r counts_below_reads.Post
counts_below_one κs a x y s t p q = same p.0 q.0

pub counts_above_one : OneResult _ counts_above_kinds.ps counts_above_kinds.r counts_above_reads.Post
counts_above_one κs a x y s t p q = same p q

pub counts_children_have_one : OneResult _ counts_children_have_kinds.ps counts_children_have_kinds.r counts_children_have_reads.Post
counts_children_have_one κs a x y s t p q = same p q

pub queue_first_one : OneResult _ queue_first_kinds.ps queue_first_kinds.r queue_first_reads.Post
queue_first_one κs a x y s t p q = same p q

pub queue_packet_first_one : OneResult _ queue_packet_first_kinds.ps queue_packet_first_kinds.r queue_packet_first_reads.Post
queue_packet_first_one κs a x y s t p q = answer_of-injective x y (same p q)

pub queue_ack_first_one : OneResult _ queue_ack_first_kinds.ps queue_ack_first_kinds.r queue_ack_first_reads.Post
queue_ack_first_one κs a x y s t p q = answer_of-injective x y (same p q)

pub queue_room_one : OneResult _ queue_room_kinds.ps queue_room_kinds.r queue_room_reads.Post
queue_room_one κs a x y s t p q = answer_of-injective x y (same p q)

pub queue_push_one : OneEnd _ queue_push_kinds.ps queue_push_kinds.r queue_push_reads.Post (λ κs s. s.0.now)
queue_push_one κs a x y s t p q = (refl, same p q)

pub queue_send_one : OneEnd _ queue_send_kinds.ps queue_send_kinds.r queue_send_reads.Post (λ κs s. s.0.now)
queue_send_one κs a x y s t p q = (refl, same p q)

pub queue_pop_one : OneEnd _ queue_pop_kinds.ps queue_pop_kinds.r queue_pop_reads.Post (λ κs s. s.0.now)
queue_pop_one κs a x y s t p q = (refl, same p q)

pub queue_deliver_one : OneEnd _ queue_deliver_kinds.ps queue_deliver_kinds.r queue_deliver_reads.Post {C = Queues × List ℕ} (λ κs s. (s.0.now, s.1.0.now))
queue_deliver_one κs a x y s t p q = (refl, λ i. (same p.0 q.0 i, same p.1 q.1 i))

pub ranges_state_fits_one : OneResult _ ranges_state_fits_kinds.ps ranges_state_fits_kinds.r ranges_state_fits_reads.Post
ranges_state_fits_one κs a x y s t p q = same p q

-- ---- synchronizer

pub synchronizer_start_one : OneResult _ synchronizer_start_kinds.ps synchronizer_start_kinds.r synchronizer_start_reads.Post
synchronizer_start_one κs a x y s t p q = same p q

pub synchronizer_output_one : OneResult _ synchronizer_output_kinds.ps synchronizer_output_kinds.r synchronizer_output_reads.Post
synchronizer_output_one κs a x y s t p q = same p.0 q.0

pub synchronizer_packet_sent_one : OneResult _ synchronizer_packet_sent_kinds.ps synchronizer_packet_sent_kinds.r synchronizer_packet_sent_reads.Post
synchronizer_packet_sent_one κs a x y s t p q = same p.0 q.0

pub synchronizer_packet_delivered_one : OneResult _ synchronizer_packet_delivered_kinds.ps synchronizer_packet_delivered_kinds.r synchronizer_packet_delivered_reads.Post
synchronizer_packet_delivered_one κs a x y s t p q = same p.0 q.0

pub synchronizer_ack_sent_one : OneResult _ synchronizer_ack_sent_kinds.ps synchronizer_ack_sent_kinds.r synchronizer_ack_sent_reads.Post
synchronizer_ack_sent_one κs a x y s t p q = same p.0 q.0

pub synchronizer_ack_delivered_one : OneResult _ synchronizer_ack_delivered_kinds.ps synchronizer_ack_delivered_kinds.r synchronizer_ack_delivered_reads.Post
synchronizer_ack_delivered_one κs a x y s t p q = same p.0 q.0

pub synchronizer_ok_one : OneResult _ synchronizer_ok_kinds.ps synchronizer_ok_kinds.r synchronizer_ok_reads.Post
synchronizer_ok_one κs a x y s t p q = same p.0 q.0

pub synchronizer_subtree_ok_sent_one : OneResult _ synchronizer_subtree_ok_sent_kinds.ps synchronizer_subtree_ok_sent_kinds.r synchronizer_subtree_ok_sent_reads.Post
synchronizer_subtree_ok_sent_one κs a x y s t p q = same p.0 q.0

pub synchronizer_subtree_ok_delivered_one : OneResult _ synchronizer_subtree_ok_delivered_kinds.ps synchronizer_subtree_ok_delivered_kinds.r synchronizer_subtree_ok_delivered_reads.Post
synchronizer_subtree_ok_delivered_one κs a x y s t p q = same p.0 q.0

pub synchronizer_cluster_ok_one : OneResult _ synchronizer_cluster_ok_kinds.ps synchronizer_cluster_ok_kinds.r synchronizer_cluster_ok_reads.Post
synchronizer_cluster_ok_one κs a x y s t p q = same p.0 q.0

pub synchronizer_down_sent_one : OneResult _ synchronizer_down_sent_kinds.ps synchronizer_down_sent_kinds.r synchronizer_down_sent_reads.Post
synchronizer_down_sent_one κs a x y s t p q = same p.0 q.0

pub synchronizer_down_delivered_one : OneResult _ synchronizer_down_delivered_kinds.ps synchronizer_down_delivered_kinds.r synchronizer_down_delivered_reads.Post
synchronizer_down_delivered_one κs a x y s t p q = same p.0 q.0

pub synchronizer_preferred_sent_one : OneResult _ synchronizer_preferred_sent_kinds.ps synchronizer_preferred_sent_kinds.r synchronizer_preferred_sent_reads.Post
synchronizer_preferred_sent_one κs a x y s t p q = same p.0 q.0

pub synchronizer_preferred_delivered_one : OneResult _ synchronizer_preferred_delivered_kinds.ps synchronizer_preferred_delivered_kinds.r synchronizer_preferred_delivered_reads.Post
synchronizer_preferred_delivered_one κs a x y s t p q = same p.0 q.0

pub synchronizer_up_sent_one : OneResult _ synchronizer_up_sent_kinds.ps synchronizer_up_sent_kinds.r synchronizer_up_sent_reads.Post
synchronizer_up_sent_one κs a x y s t p q = same p.0 q.0

pub synchronizer_up_delivered_one : OneResult _ synchronizer_up_delivered_kinds.ps synchronizer_up_delivered_kinds.r synchronizer_up_delivered_reads.Post
synchronizer_up_delivered_one κs a x y s t p q = same p.0 q.0

pub synchronizer_cluster_go_one : OneResult _ synchronizer_cluster_go_kinds.ps synchronizer_cluster_go_kinds.r synchronizer_cluster_go_reads.Post
synchronizer_cluster_go_one κs a x y s t p q = same p.0 q.0

pub synchronizer_subtree_go_sent_one : OneResult _ synchronizer_subtree_go_sent_kinds.ps synchronizer_subtree_go_sent_kinds.r synchronizer_subtree_go_sent_reads.Post
synchronizer_subtree_go_sent_one κs a x y s t p q = same p.0 q.0

pub synchronizer_subtree_go_delivered_one : OneResult _ synchronizer_subtree_go_delivered_kinds.ps synchronizer_subtree_go_delivered_kinds.r synchronizer_subtree_go_delivered_reads.Post
synchronizer_subtree_go_delivered_one κs a x y s t p q = same p.0 q.0

pub synchronizer_go_one : OneResult _ synchronizer_go_kinds.ps synchronizer_go_kinds.r synchronizer_go_reads.Post
synchronizer_go_one κs a x y s t p q = same p.0 q.0

pub synchronizer_input_one : OneResult _ synchronizer_input_kinds.ps synchronizer_input_kinds.r synchronizer_input_reads.Post
synchronizer_input_one κs a x y s t p q = same p.0 q.0

pub synchronizer_act_one : OneResult _ synchronizer_act_kinds.ps synchronizer_act_kinds.r synchronizer_act_reads.Post
synchronizer_act_one κs a x y s t p q = same p.0 q.0

pub synchronizer_run_one : OneResult _ synchronizer_run_kinds.ps synchronizer_run_kinds.r synchronizer_run_reads.Post
synchronizer_run_one κs a x y s t p q = same p.0 q.0

-- ---- text, report, teravulk

pub text_word_one : OneEnd _ text_word_kinds.ps text_word_kinds.r text_word_reads.Post (λ κs s. s.0.now)
text_word_one κs a x y s t p q = (same p.place q.place, same p.held q.held)

pub text_line_one : OneEnd _ text_line_kinds.ps text_line_kinds.r text_line_reads.Post (λ κs s. s.0.now)
text_line_one κs a x y s t p q = (same p.place q.place, same p.held q.held)

pub report_whole_one : OneEnd _ report_whole_kinds.ps report_whole_kinds.r report_whole_reads.Post (λ κs s. s.0.now)
report_whole_one κs a x y s t p q = (same p.0 q.0, same p.1 q.1)

pub report_end_only_one : OneEnd _ report_end_only_kinds.ps report_end_only_kinds.r report_end_only_reads.Post (λ κs s. s.0.now)
report_end_only_one κs a x y s t p q = (same p.0 q.0, same p.1.0 q.1.0)

pub report_trial_one : OneEnd _ report_trial_kinds.ps report_trial_kinds.r report_trial_reads.Post (λ κs s. s.1.0.now)
report_trial_one κs a x y s t p q = (same p.count q.count, same p.held q.held)

pub teravulk_trial_one : OneEnd _ teravulk_trial_kinds.ps teravulk_trial_kinds.r teravulk_trial_reads.Post (λ κs s. s.1.0.now)
teravulk_trial_one κs a x y s t p q = (same p.0 q.0, same p.1.0 q.1.0)

pub teravulk_layout_one : OneEnd _ teravulk_layout_kinds.ps teravulk_layout_kinds.r teravulk_layout_reads.Post {C = List ℕ × ℕ} (λ κs s. (s.1.1.0.now, s.1.1.1.0.now))
teravulk_layout_one κs a x y s t p q = (same p.0 q.0, λ i. (same p.1.1.0 q.1.1.0 i, same p.1.0 q.1.0 i))

-- ---- input, commands

pub input_decimal_one : OneResult _ input_decimal_kinds.ps input_decimal_kinds.r input_decimal_reads.Post
input_decimal_one κs a x y s t p q = same p q

pub commands_word_of_one : OneResult _ commands_word_of_kinds.ps commands_word_of_kinds.r commands_word_of_reads.Post
commands_word_of_one κs a x y s t p q = same p q

pub commands_layout_one : OneEnd _ commands_layout_kinds.ps commands_layout_kinds.r commands_layout_reads.Post {C = List ℕ × List ℕ} (λ κs s. (s.1.1.0.now, s.1.1.1.0.now))
commands_layout_one κs a x y s t p q =
    (same p.0.counts q.0.counts, λ i. (same p.0.on_output q.0.on_output i, same p.0.on_errors q.0.on_errors i))
