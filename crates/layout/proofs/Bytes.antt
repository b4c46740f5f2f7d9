-- What stands in the buffer once the plan's bytes are copied and each parent and flag byte is replaced: the bytes of the plan with these parents
-- and flags, and behind them what stood there before.
-- Assumes nothing.
use Prim.Native.Nat.{ℕ, zero, suc, ◌+◌, ◌*◌, ◌≤◌}
use native.Mathlib.Omega.{arith}
use mathlib.Core.Path.{◌≡◌, refl, sym, ◌∙◌, ap}
use mathlib.Core.List.{List, [], ◌∷◌, ◌++◌, append_assoc}
use lib.ListN.{length, get_or, set, take, drop, length-append}
use lib.Seq.{length-take-le, take-suc, drop-cons, append_snoc, set_at, take_at, drop_at}
use Rattle.laws.specs.Below.{over_below}
use Rattle.records.specs.Plan.{Plan, PlanNode, PlanLink, two_bytes, rounds_bytes, node_bytes, nodes_bytes, link_bytes, links_bytes, bytes_of}
use Rattle.layout.specs.Layout.{copied, with_fields, with_parents, with_flags}
use Rattle.layout.proofs.Fields.{each_with, run_with}
use Rattle.layout.proofs.Records.{numbered_link, rounds_wide, node_wide, link_wide, nodes_run, links_run, nodes_length, plan_length}
use Rattle.layout.proofs.Relaid.{with_parent, with_flag, relaid, relaid_nodes, relaid_links}

-- the first n bytes, and then what stood there before
pub copied_is : (s : List ℕ) (n : ℕ) (out : List ℕ) → n ≤ length s → n ≤ length out → copied s n out ≡ take n s ++ drop n out
unfolding copied over_below
copied_is s zero out h l = refl
copied_is s (suc n) out h l =
    ap (λ xs. set xs n (get_or s n 0)) (copied_is s n out (omega arith) (omega arith) ∙ ap (λ xs. take n s ++ xs) (drop-cons out n 0 (omega arith)))
    ∙ set_at (take n s) (get_or out n 0) (drop (suc n) out) (get_or s n 0) n (length-take-le n s (omega arith))
    ∙ sym (append_snoc (take n s) (get_or s n 0) (drop (suc n) out))
    ∙ ap (λ xs. xs ++ drop (suc n) out) (sym (take-suc s n 0 (omega arith)))

-- ---- one byte of a record replaced

parent_put : (number v : ℕ) (x : PlanNode) (rest : List ℕ) → set (node_bytes number x ++ rest) 2 v ≡ node_bytes number (with_parent v x) ++ rest
unfolding node_bytes two_bytes
parent_put number v x rest = refl

flag_put : (number v : ℕ) (x : PlanLink) (rest : List ℕ) → set (numbered_link number x ++ rest) 3 v ≡ numbered_link number (with_flag v x) ++ rest
unfolding link_bytes
flag_put number v x rest = refl

-- ---- every parent, and every flag

-- nodes with these parents, and links with these flags
abbrev parented : List ℕ → List PlanNode → List PlanNode
parented parents xs = each_with with_parent (λ i. get_or parents i 0) xs

abbrev flagged : List ℕ → List PlanLink → List PlanLink
flagged flags xs = each_with with_flag (λ l. get_or flags l 0) xs

-- the parents of nodes that stand behind a plan's rounds
parents_written :
    (parents : List ℕ) (v : ℕ) (xs : List PlanNode) (after : List ℕ)
    → with_parents parents (length xs) (rounds_bytes v ++ (nodes_bytes 0 xs ++ after)) ≡ rounds_bytes v ++ (nodes_bytes 0 (parented parents xs) ++ after)
unfolding with_parents with_fields
parents_written parents v xs after =
    rw (nodes_run 0 xs, nodes_run 0 (parented parents xs))
    (run_with node_bytes 5 node_wide 2 with_parent parent_put (λ i. get_or parents i 0) 0 5 (rounds_bytes v) xs after (omega (arith, rounds_wide v)))

-- the flags of links that stand behind a plan's rounds and nodes
flags_written :
    (flags : List ℕ) (nodes : ℕ) (before : List ℕ) (xs : List PlanLink) (after : List ℕ) → length before ≡ 3 + 5 * nodes
    → with_flags flags nodes (length xs) (before ++ (links_bytes xs ++ after)) ≡ before ++ (links_bytes (flagged flags xs) ++ after)
unfolding with_flags with_fields
flags_written flags nodes before xs after e =
    rw (links_run 0 xs, links_run 0 (flagged flags xs))
    (run_with numbered_link 4 link_wide 3 with_flag flag_put (λ l. get_or flags l 0) 0 (3 + 5 * nodes + 3) before xs after (omega arith))

-- ---- the whole plan

-- bytes with each parent and flag byte of the plan p replaced
abbrev pub replaced_in : List ℕ → List ℕ → Plan → List ℕ → List ℕ
replaced_in parents flags p xs =
    with_flags flags (length p.nodes) (length p.links) (with_parents parents (length p.nodes) xs)

module _ (parents flags : List ℕ) (p : Plan) where
  plan_replaced : (rest : List ℕ) → replaced_in parents flags p (bytes_of p ++ rest) ≡ bytes_of (relaid parents flags p) ++ rest
  unfolding bytes_of
  plan_replaced rest =
      ap (replaced_in parents flags p) (apart nodes links)
      ∙ ap (with_flags flags (length p.nodes) (length p.links)) (parents_written parents p.rounds p.nodes (links ++ end) ∙ sym (append_assoc rounds nodes' (links ++ end)))
      ∙ flags_written flags (length p.nodes) (rounds ++ nodes') p.links end before_links
      ∙ append_assoc rounds nodes' (links' ++ end)
      ∙ sym (apart nodes' links')
    where
      rounds : List ℕ
      rounds = rounds_bytes p.rounds

      nodes : List ℕ
      nodes = nodes_bytes 0 p.nodes

      links : List ℕ
      links = links_bytes p.links

      nodes' : List ℕ
      nodes' = nodes_bytes 0 (parented parents p.nodes)

      links' : List ℕ
      links' = links_bytes (flagged flags p.links)

      end : List ℕ
      end = 0 ∷ [] ++ rest

      before_links : length (rounds ++ nodes') ≡ 3 + 5 * length p.nodes
      before_links =
          omega (arith, length-append rounds nodes', rounds_wide p.rounds, nodes_length 0 (parented parents p.nodes), relaid_nodes parents flags p)

      apart : (xs ys : List ℕ) → rounds ++ xs ++ ys ++ 0 ∷ [] ++ rest ≡ rounds ++ (xs ++ (ys ++ end))
      apart xs ys = simp append_assoc

  -- as long as before
  relaid_length : length (bytes_of (relaid parents flags p)) ≡ length (bytes_of p)
  relaid_length =
      omega (arith, plan_length p, plan_length (relaid parents flags p), relaid_nodes parents flags p, relaid_links parents flags p)

  module _ (s : List ℕ) (n : ℕ) (out : List ℕ) (within : n ≤ length s) (room : n ≤ length out) (holds : take n s ≡ bytes_of p) where
    pub laid_bytes : replaced_in parents flags p (copied s n out) ≡ bytes_of (relaid parents flags p) ++ drop n out
    laid_bytes =
        ap (replaced_in parents flags p) (copied_is s n out within room ∙ ap (λ l. l ++ drop n out) holds)
        ∙ plan_replaced (drop n out)

    bytes_long : length (bytes_of (relaid parents flags p)) ≡ n
    bytes_long = relaid_length ∙ ap length (sym holds) ∙ length-take-le n s within

    -- the plan's bytes, and what stands behind them
    pub laid_front : take n (replaced_in parents flags p (copied s n out)) ≡ bytes_of (relaid parents flags p)
    laid_front = ap (take n) laid_bytes ∙ take_at (bytes_of (relaid parents flags p)) (drop n out) n bytes_long

    pub laid_rest : drop n (replaced_in parents flags p (copied s n out)) ≡ drop n out
    laid_rest = ap (drop n) laid_bytes ∙ drop_at (bytes_of (relaid parents flags p)) (drop n out) n bytes_long
