-- The lists of `specs/Among.antt` are exact: every number in each is answered by an input of that entry point that is computed here. A number that
-- is added to a list and never comes back breaks its theorem. (`Demand1` has that no other number is answered.)
-- Assumes nothing.
use Prim.Native.Nat.{ℕ, zero, suc, ◌+◌, ◌*◌, ◌<◌}
use mathlib.Core.Path.{◌≡◌, refl, ◌∙◌, ap}
use mathlib.Core.Bool.{true}
use mathlib.Core.List.{List, [], ◌∷◌}
use lib.ListN.{length, get_or, length-replicate}
use Rattle.laws.specs.Choice.{if_b, if_lt, if_eq, both}
use Rattle.laws.specs.Below.{all_below, sum_below, count_below, fold_below, first_of, over_below, list_below, pick_below}
use Rattle.laws.specs.Lists.{total}
use Rattle.nodeset.specs.Marks.{digit, member, inserted, removed, size_of, lowest_of, all_in, sum_in, members_of, values_in}
use Rattle.network.specs.Sets.{towards, link_gives, link_set, child_set, with_sets, added, linked, adopted}
use Rattle.network.specs.Valid.{within_limits, node_fits, rises, link_fits, link_rises, link_stands, agrees, valid_network}
use Rattle.records.specs.Record.{body_length, record_at, read_at as records_read_at}
use Rattle.records.specs.Rules.{rounds_rule, node_rule, follows_of, link_rule, end_rule}
use Rattle.network.specs.Zeros.{zero_network}
use Rattle.records.specs.Reader.{rounds_added, node_added, link_added, turn, lists_from, lists_of}
use Rattle.links.specs.Links.{pair_is, joins, link_between, has_link}
use Rattle.tree.specs.Climb.{climb, root_of, root_from, depth_from, depth_of, LeadsIn}
use Rattle.tree.specs.Checks.{untied, first_untied, Tied, first_lost}
use Rattle.clusters.specs.Clusters.{roots_of, root_at, inside, first_inside, chosen, preferred_between, not_one, first_not_one, cluster_count, cluster_of, JoinsTwo, PairHasOne}
use Rattle.joined.specs.Joined.{follow, across, pass, joined_marks, first_unjoined}
use Rattle.plan.specs.Checks.{checks_of, plan_of}
use Rattle.laws.specs.Mean.{share_of, rule_of}
use Rattle.lockstep.specs.Rule.{mean_of}
use Rattle.lockstep.specs.Rounds.{next_by, round_by, rounds_by, lockstep_of}
use Rattle.lockstep.specs.Table.{table_number, table_of}
use Rattle.actions.specs.Kinds.{number_of, index_of, kind_at, cell_of}
use Rattle.actions.specs.Table.{place_of, own_of, knows_by, may_go_by, need_of, every_of, does_of}
use Rattle.actions.specs.Records.{names_of, body_of, act_at, read_at as actions_read_at}
use Rattle.synchronizer.specs.Wires.{joined, lanes_of, wires_of, is_root, around_of}
use Rattle.counts.specs.Counts.{children_have}
use Rattle.synchronizer.specs.Answer.{stands_in, starts_round, count_answer, senders_have, every_has, queue_answer, own_in, legal_answer, need_answer, answer_in}
use Rattle.synchronizer.specs.After.{mean_heard, effect_in, counted, after_in}
use Rattle.synchronizer.specs.Start.{fresh_with, start_of}
use Rattle.synchronizer.specs.Entry.{in_range, done_in, done_of, acted_as, record_in, act_in, act_of, list_from, list_of}
use lib.ListN.{set, replicate}
use Rattle.network.specs.declared.Network.{Network}
use Rattle.actions.specs.declared.Kind.{Kind}
use Rattle.actions.specs.declared.Kind.TheVariants.{Output, PacketSent}
use Rattle.actions.specs.Kinds.{count, kinds}
use Rattle.queue.specs.Queue.{head_of, packet_first, ack_first, room_answer, pushed, moved_up, popped, heard_in}
use Rattle.synchronizer.specs.declared.State.{State}
use Rattle.synchronizer.specs.declared.Ran.{Ran}
use Rattle.guarantees.specs.Trials.{plan_t, pair}
use native.Mathlib.Omega.{arith}
use native.Mathlib.Decide.{ℕ_discrete}
use lib.Seq.{get_or-set_same, get_or-set_other}
use Rattle.laws.proofs.Choice.{if_b_yes, both_yes, eq_elim}
use Rattle.laws.proofs.Entries.{repeated_at}
use Rattle.synchronizer.proofs.States.{entry_of, past_of, sort_of, load_of, Passes, passes_valid}
use Rattle.ranges.specs.Fits.{used_by, entry_fits, sort_fits}
use Rattle.synchronizer.specs.declared.Done.{Done}
use Rattle.synchronizer.specs.declared.Acted.{Acted}
use Rattle.synchronizer.specs.Valid.{valid_state}
use Rattle.actions.specs.declared.Kind.TheVariants.{SubtreeOkSent, Ok}
use Rattle.guarantees.specs.Among.{plan_numbers, start_numbers, method_numbers, action_numbers, table_numbers}
use Rattle.guarantees.proofs.Witnesses.{plan_witnesses, start_and_table_witnesses, full, roots}

-- a rule holds of each number of a list
abbrev pub Each : List ℕ → (ℕ → Type 0) → Type 0
Each [] P = Unit {0}
Each (n ∷ ns) P = P n × Each ns P

-- ---- the plan reader, the start state, the table

pub plan_exact : Each plan_numbers (λ k. (s : List ℕ) × ((plan_of s).number ≡ k))
plan_exact =
    let w = plan_witnesses in
    ((plan_t 1, w.accepted), ((4 ∷ [], w.unknown), ((1 ∷ 0 ∷ [], w.cut_short_lem), (([], w.out_of_order_lem), ((1 ∷ 0 ∷ 1 ∷ roots 65 0, w.too_many_lem), ((1 ∷ 0 ∷ 0 ∷ [], w.out_of_range_lem), ((pair 1 1 [], w.untied), ((pair 1 0 (3 ∷ 0 ∷ 1 ∷ 0 ∷ []), w.lost), ((pair 0 0 (3 ∷ 0 ∷ 1 ∷ 1 ∷ []), w.inside), ((pair 0 1 (3 ∷ 0 ∷ 1 ∷ 0 ∷ []), w.not_one_lem), ((pair 0 1 [], w.unjoined), tt)))))))))))

abbrev pub T : Network
T = (plan_of (plan_t 1)).network

pub start_exact : Each start_numbers (λ k. (net : Network) × ((start_of net).answer ≡ k))
start_exact = let w = start_and_table_witnesses in ((T, w.started), ((zero_network, w.not_started), tt))

pub table_exact : Each table_numbers (λ k. (net : Network) × (rounds : ℕ) × (room : ℕ) × (table_number net rounds room ≡ k))
table_exact =
    let w = start_and_table_witnesses in
    ((T, 1, 2, w.tabled), ((zero_network, 0, 0, w.out_of_range_lem), ((T, 2, 2, w.too_many_rounds), ((T, 1, 1, w.no_room_lem), tt))))

-- ---- the methods, single actions and lists, on a handed-in state: node 0 of plan T has output, and two messages wait from 0 to 1

-- zeros but for one entry
other : (m i v c : ℕ) → (c ≡ i → ⊥) → get_or (set (replicate m 0) i v) c 0 ≡ 0
other m i v c d = get_or-set_other (replicate m 0) i c v 0 d ∙ repeated_at m 0 c

at_first : (m v : ℕ) → 0 < m → get_or (set (replicate m 0) 0 v) 0 0 ≡ v
at_first m v h = get_or-set_same (replicate m 0) 0 v 0 (omega (arith, length-replicate {A = ℕ} m 0))

module _ (net : Network) (rounds : 0 < net.rounds) (nodes : 0 < net.nodes) (links : 0 < net.links) where
  one_used : (k : Kind) → 0 < used_by net.nodes net.links k
  unfolding used_by
  one_used k = eq_elim (λ u. 0 < u) (body_of k) 1 net.nodes (net.links * 2) (λ _. nodes) (λ _. omega arith)

  full_passes : Passes net full
  unfolding full cell_of index_of number_of sort_fits if_lt if_eq if_b
  full_passes =
      record {
        counted = λ k x h. count_fits k x (ℕ_discrete (cell_of (count k x)) 0);
        queued = record {
          at_most_two = λ d h. lens_fit d (ℕ_discrete d 0);
          sort = λ d j h l. sorts_fit_lem d j l (ℕ_discrete d 0);
          load = λ e h. load_of (λ _. repeated_at 512 0 e);
        };
        slot = λ x h. past_of (λ _. repeated_at 512 0 x);
        value = λ p h. past_of (λ _. repeated_at 64 0 p);
      }
    where
      count_fits : (k : Kind) (x : ℕ) → Dec (cell_of (count k x) ≡ 0) → entry_fits net.rounds (used_by net.nodes net.links k) x (get_or (set (replicate (length kinds * 256) 0) 0 1) (cell_of (count k x)) 0) ≡ true
      count_fits k x (yes e) =
          entry_of (λ _. omega (arith, ap {B = ℕ} (λ c. get_or (set (replicate (length kinds * 256) 0) 0 1) c 0) e, at_first (length kinds * 256) 1 (omega arith))) (λ past. absurd (omega (arith, e, one_used k)))
      count_fits k x (no d) =
          let none = other (length kinds * 256) 0 1 (cell_of (count k x)) d in
          entry_of (λ _. omega arith) (λ _. none)

      lens_fit : (d : ℕ) → Dec (d ≡ 0) → entry_fits 2 (net.links * 2) d (get_or (set (replicate 256 0) 0 2) d 0) ≡ true
      lens_fit d (yes e) = entry_of (λ _. omega (arith, ap {B = ℕ} (λ c. get_or (set (replicate 256 0) 0 2) c 0) e, at_first 256 2 (omega arith))) (λ past. absurd (omega arith))
      lens_fit d (no n) =
          let none = other 256 0 2 d n in
          entry_of (λ _. omega arith) (λ _. none)

      sorts_fit_lem : (d j : ℕ) → j < 2 → Dec (d ≡ 0) → sort_fits (get_or (set (replicate 256 0) 0 2) d 0) j (get_or (set (set (replicate 512 0) 0 1) 1 1) (d * 2 + j) 0) ≡ true
      sorts_fit_lem zero zero l _ = refl
      sorts_fit_lem zero (suc zero) l _ = refl
      sorts_fit_lem zero (suc (suc j)) l _ = absurd (omega arith)
      sorts_fit_lem (suc d) j l _ =
          let len = other 256 0 2 (suc d) (λ e. omega arith) in
          let sort : get_or {A = ℕ} (set (set (replicate 512 0) 0 1) 1 1) (suc d * 2 + j) 0 ≡ 0 = get_or-set_other (set (replicate 512 0) 0 1) 1 (suc d * 2 + j) 1 0 (λ e. omega arith) ∙ other 512 0 1 (suc d * 2 + j) (λ e. omega arith) in
          sort_of {len = get_or {A = ℕ} (set (replicate 256 0) 0 2) (suc d) 0} {j = j} {sort = get_or {A = ℕ} (set (set (replicate 512 0) 0 1) 1 1) (suc d * 2 + j) 0} (λ waits. absurd (omega (arith, len))) (λ _. sort)

T-valid : (valid_network T ≡ true) × (0 < T.rounds) × (0 < T.nodes) × (0 < T.links)
unfolding full if_b if_lt if_eq both all_below sum_below count_below fold_below first_of over_below list_below pick_below total digit member inserted removed size_of lowest_of all_in sum_in members_of values_in towards link_gives link_set child_set with_sets added linked adopted within_limits node_fits rises link_fits link_rises link_stands agrees valid_network body_length record_at records_read_at rounds_rule node_rule follows_of link_rule end_rule zero_network rounds_added node_added link_added turn lists_from lists_of pair_is joins link_between has_link climb root_of root_from depth_from depth_of LeadsIn untied first_untied Tied first_lost roots_of root_at inside first_inside chosen preferred_between not_one first_not_one cluster_count cluster_of JoinsTwo PairHasOne follow across pass joined_marks first_unjoined checks_of plan_of share_of rule_of mean_of next_by round_by rounds_by lockstep_of table_number table_of number_of index_of kind_at cell_of place_of own_of knows_by may_go_by need_of every_of does_of names_of body_of act_at actions_read_at joined lanes_of wires_of is_root around_of stands_in starts_round count_answer children_have senders_have every_has head_of packet_first ack_first room_answer queue_answer own_in legal_answer need_answer answer_in pushed moved_up popped heard_in mean_heard effect_in counted after_in fresh_with start_of in_range done_in done_of acted_as record_in act_in act_of list_from list_of
T-valid = (refl, omega arith, omega arith, omega arith)

full_in_range : in_range T full ≡ true
unfolding in_range
full_in_range =
    let (v, r, n, l) = T-valid in
    both_yes (valid_network T) (valid_state T full) v (passes_valid T full (full_passes T r n l))

pub by_method : (k : Kind) (p q n : ℕ) → (done_in (wires_of T) full k p q).answer ≡ n → (done_of T full k p q).answer ≡ n
unfolding done_of
by_method k p q n e = ap (λ (d : Done). d.answer) (if_b_yes (in_range T full) _ _ full_in_range) ∙ e

by_action : (bytes : List ℕ) (n : ℕ) → (act_in (wires_of T) full bytes 0).answer ≡ n → (act_of T full bytes).answer ≡ n
unfolding act_of
by_action bytes n e = ap (λ (d : Acted). d.answer) (if_b_yes (in_range T full) _ _ full_in_range) ∙ e

by_list : (bytes : List ℕ) (n : ℕ) → (list_from (suc (length bytes)) (wires_of T) full bytes 0 0).answer ≡ n → (list_of T full bytes).answer ≡ n
unfolding list_of
by_list bytes n e = ap (λ (d : Ran). d.answer) (if_b_yes (in_range T full) _ _ full_in_range) ∙ e

pub method_exact : Each method_numbers (λ n. (net : Network) × (s : State) × (k : Kind) × (p : ℕ) × (q : ℕ) × ((done_of net s k p q).answer ≡ n))
unfolding full if_b if_lt if_eq both all_below sum_below count_below fold_below first_of over_below list_below pick_below total digit member inserted removed size_of lowest_of all_in sum_in members_of values_in towards link_gives link_set child_set with_sets added linked adopted within_limits node_fits rises link_fits link_rises link_stands agrees valid_network body_length record_at records_read_at rounds_rule node_rule follows_of link_rule end_rule zero_network rounds_added node_added link_added turn lists_from lists_of pair_is joins link_between has_link climb root_of root_from depth_from depth_of LeadsIn untied first_untied Tied first_lost roots_of root_at inside first_inside chosen preferred_between not_one first_not_one cluster_count cluster_of JoinsTwo PairHasOne follow across pass joined_marks first_unjoined checks_of plan_of share_of rule_of mean_of next_by round_by rounds_by lockstep_of table_number table_of number_of index_of kind_at cell_of place_of own_of knows_by may_go_by need_of every_of does_of names_of body_of act_at actions_read_at joined lanes_of wires_of is_root around_of stands_in starts_round count_answer children_have senders_have every_has head_of packet_first ack_first room_answer queue_answer own_in legal_answer need_answer answer_in pushed moved_up popped heard_in mean_heard effect_in counted after_in fresh_with start_of in_range done_in done_of acted_as record_in act_in act_of list_from list_of
method_exact = (
  (T, full, Output, 1, 1, by_method Output 1 1 0 refl),
  (
    (T, full, Output, 7, 7, by_method Output 7 7 13 refl),
    (
      (T, full, SubtreeOkSent, 0, 0, by_method SubtreeOkSent 0 0 14 refl),
      (
        (T, full, Output, 0, 0, by_method Output 0 0 15 refl),
        (
          (T, full, Ok, 0, 0, by_method Ok 0 0 16 refl),
          (
            (T, full, PacketSent, 0, 1, by_method PacketSent 0 1 18 refl),
            ((zero_network, full, Output, 0, 0, refl), tt),
          ),
        ),
      ),
    ),
  ),
)

pub action_exact : Each action_numbers (λ n. (net : Network) × (s : State) × (bytes : List ℕ) × ((act_of net s bytes).answer ≡ n))
unfolding full if_b if_lt if_eq both all_below sum_below count_below fold_below first_of over_below list_below pick_below total digit member inserted removed size_of lowest_of all_in sum_in members_of values_in towards link_gives link_set child_set with_sets added linked adopted within_limits node_fits rises link_fits link_rises link_stands agrees valid_network body_length record_at records_read_at rounds_rule node_rule follows_of link_rule end_rule zero_network rounds_added node_added link_added turn lists_from lists_of pair_is joins link_between has_link climb root_of root_from depth_from depth_of LeadsIn untied first_untied Tied first_lost roots_of root_at inside first_inside chosen preferred_between not_one first_not_one cluster_count cluster_of JoinsTwo PairHasOne follow across pass joined_marks first_unjoined checks_of plan_of share_of rule_of mean_of next_by round_by rounds_by lockstep_of table_number table_of number_of index_of kind_at cell_of place_of own_of knows_by may_go_by need_of every_of does_of names_of body_of act_at actions_read_at joined lanes_of wires_of is_root around_of stands_in starts_round count_answer children_have senders_have every_has head_of packet_first ack_first room_answer queue_answer own_in legal_answer need_answer answer_in pushed moved_up popped heard_in mean_heard effect_in counted after_in fresh_with start_of in_range done_in done_of acted_as record_in act_in act_of list_from list_of
action_exact = (
  (T, full, 16 ∷ 1 ∷ [], by_action (16 ∷ 1 ∷ []) 0 refl),
  (
    (T, full, 16 ∷ 7 ∷ [], by_action (16 ∷ 7 ∷ []) 13 refl),
    (
      (T, full, 22 ∷ 0 ∷ [], by_action (22 ∷ 0 ∷ []) 14 refl),
      (
        (T, full, 16 ∷ 0 ∷ [], by_action (16 ∷ 0 ∷ []) 15 refl),
        (
          (T, full, 21 ∷ 0 ∷ [], by_action (21 ∷ 0 ∷ []) 16 refl),
          (
            (T, full, 17 ∷ 0 ∷ 1 ∷ [], by_action (17 ∷ 0 ∷ 1 ∷ []) 18 refl),
            (
              (zero_network, full, [], refl),
              (
                (T, full, 15 ∷ [], by_action (15 ∷ []) 11 refl),
                ((T, full, [], by_action [] 12 refl), tt),
              ),
            ),
          ),
        ),
      ),
    ),
  ),
)

pub list_exact : Each action_numbers (λ n. (net : Network) × (s : State) × (bytes : List ℕ) × ((list_of net s bytes).answer ≡ n))
unfolding full if_b if_lt if_eq both all_below sum_below count_below fold_below first_of over_below list_below pick_below total digit member inserted removed size_of lowest_of all_in sum_in members_of values_in towards link_gives link_set child_set with_sets added linked adopted within_limits node_fits rises link_fits link_rises link_stands agrees valid_network body_length record_at records_read_at rounds_rule node_rule follows_of link_rule end_rule zero_network rounds_added node_added link_added turn lists_from lists_of pair_is joins link_between has_link climb root_of root_from depth_from depth_of LeadsIn untied first_untied Tied first_lost roots_of root_at inside first_inside chosen preferred_between not_one first_not_one cluster_count cluster_of JoinsTwo PairHasOne follow across pass joined_marks first_unjoined checks_of plan_of share_of rule_of mean_of next_by round_by rounds_by lockstep_of table_number table_of number_of index_of kind_at cell_of place_of own_of knows_by may_go_by need_of every_of does_of names_of body_of act_at actions_read_at joined lanes_of wires_of is_root around_of stands_in starts_round count_answer children_have senders_have every_has head_of packet_first ack_first room_answer queue_answer own_in legal_answer need_answer answer_in pushed moved_up popped heard_in mean_heard effect_in counted after_in fresh_with start_of in_range done_in done_of acted_as record_in act_in act_of list_from list_of
list_exact = (
  (T, full, 16 ∷ 1 ∷ [], by_list (16 ∷ 1 ∷ []) 0 refl),
  (
    (T, full, 16 ∷ 7 ∷ [], by_list (16 ∷ 7 ∷ []) 13 refl),
    (
      (T, full, 22 ∷ 0 ∷ [], by_list (22 ∷ 0 ∷ []) 14 refl),
      (
        (T, full, 16 ∷ 0 ∷ [], by_list (16 ∷ 0 ∷ []) 15 refl),
        (
          (T, full, 21 ∷ 0 ∷ [], by_list (21 ∷ 0 ∷ []) 16 refl),
          (
            (T, full, 17 ∷ 0 ∷ 1 ∷ [], by_list (17 ∷ 0 ∷ 1 ∷ []) 18 refl),
            (
              (zero_network, full, [], refl),
              (
                (T, full, 15 ∷ [], by_list (15 ∷ []) 11 refl),
                ((T, full, 16 ∷ [], by_list (16 ∷ []) 12 refl), tt),
              ),
            ),
          ),
        ),
      ),
    ),
  ),
)
