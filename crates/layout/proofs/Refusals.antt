-- The answers one by one, in their order: what decides each, and that only the last writes.
-- Assumes nothing.
use Prim.Native.Nat.{ℕ, ◌+◌, ◌*◌, ◌<◌, ◌≤◌}
use native.Mathlib.Omega.{arith}
use mathlib.Core.Path.{◌≡◌, sym, ◌∙◌, ap}
use mathlib.Core.List.{List, ◌++◌}
use lib.ListN.{length, get_or, set, take, drop}
use Rattle.std.proofs.Common.{length-take-le}
use lib.Seq.{get_or-take}
use Rattle.laws.specs.Below.{fold_below}
use Rattle.laws.proofs.Below.{fold_same}
use Rattle.laws.proofs.Choice.{if_lt_yes, if_lt_no, if_eq_yes, if_eq_no}
use Rattle.records.specs.Numbers.{accepted}
use Rattle.records.specs.Reader.{lists_of}
use Rattle.network.specs.declared.Network.{Network}
use Rattle.links.specs.Links.{nodes_of, links_of}
use Rattle.clusters.specs.Clusters.{roots_of}
use Rattle.joined.specs.Joined.{first_unjoined}
use Rattle.plan.specs.Numbers.{unjoined}
use Rattle.layout.specs.Laid.{Laid}
use Rattle.layout.specs.Numbers.{too_deep, no_room}
use Rattle.layout.specs.Layout.{laid, wires_of, layout_of, laid_parents, first_flags, copied, with_fields, with_parents, with_flags, laid_over, laid_in}
use Rattle.layout.proofs.Bytes.{copied_is}

module _ (s : List ℕ) (depth : ℕ) (out : List ℕ) where
  -- the answer is this, and the buffer is left as it came
  abbrev pub Refuses : ℕ → ℕ → Type 0
  Refuses number place = (laid number place ≡ layout_of s depth (length out)) × (out ≡ laid_in s depth out)

  unwritten : (number place : ℕ) → layout_of s depth (length out) ≡ laid number place → (number ≡ 0 → ⊥) → Refuses number place
  unfolding laid_in
  unwritten number place e d = (sym e, sym (if_eq_no _ accepted _ out (λ z. d (sym (ap (λ (r : Laid). r.number) e) ∙ z))))

  pub by_record : ((lists_of s).number ≡ accepted → ⊥) → Refuses (lists_of s).number (lists_of s).place
  unfolding layout_of
  by_record d = unwritten (lists_of s).number (lists_of s).place (if_eq_no (lists_of s).number accepted _ _ d) d

  module _ (kept : (lists_of s).number ≡ accepted) where
    pub by_unjoined : first_unjoined (wires_of s) < nodes_of (wires_of s) → Refuses unjoined (first_unjoined (wires_of s))
    unfolding layout_of
    by_unjoined h =
        unwritten unjoined (first_unjoined (wires_of s)) (if_eq_yes (lists_of s).number accepted _ _ kept ∙ if_lt_yes (first_unjoined (wires_of s)) (nodes_of (wires_of s)) _ _ h) (λ e. omega arith)

    module _ (joined : nodes_of (wires_of s) ≤ first_unjoined (wires_of s)) where
      pub by_depth : 63 < depth → Refuses too_deep 0
      unfolding layout_of
      by_depth h =
          unwritten too_deep 0 (if_eq_yes (lists_of s).number accepted _ _ kept ∙ if_lt_no (first_unjoined (wires_of s)) (nodes_of (wires_of s)) _ _ joined ∙ if_lt_yes 63 depth _ _ h) (λ e. omega arith)

      module _ (shallow : depth ≤ 63) where
        pub by_room : length out < (lists_of s).place → Refuses no_room 0
        unfolding layout_of
        by_room h =
            unwritten no_room 0 (if_eq_yes (lists_of s).number accepted _ _ kept ∙ if_lt_no (first_unjoined (wires_of s)) (nodes_of (wires_of s)) _ _ joined ∙ if_lt_no 63 depth _ _ shallow ∙ if_lt_yes (length out) (lists_of s).place _ _ h) (λ e. omega arith)

        pub writes : (lists_of s).place ≤ length out → (laid accepted (lists_of s).place ≡ layout_of s depth (length out)) × (laid_over s (lists_of s).place (wires_of s) depth out ≡ laid_in s depth out)
        unfolding layout_of laid_in
        writes h = (sym answer, sym (if_eq_yes _ accepted _ out (ap (λ (r : Laid). r.number) answer)))
          where
            answer : layout_of s depth (length out) ≡ laid accepted (lists_of s).place
            answer =
                if_eq_yes (lists_of s).number accepted _ _ kept
                ∙ if_lt_no (first_unjoined (wires_of s)) (nodes_of (wires_of s)) _ _ joined
                ∙ if_lt_no 63 depth _ _ shallow
                ∙ if_lt_no (length out) (lists_of s).place _ _ h

-- ---- the steps of writing, put together

-- the first of the fields, as a slice of them
fields_front : (fields : List ℕ) (count at width : ℕ) (out : List ℕ) → count ≤ length fields → with_fields (take count fields) (length (take count fields)) at width out ≡ with_fields fields count at width out
unfolding with_fields
fields_front fields count at width out h =
    ap (fold_below (λ k xs. set xs (at + width * k) (get_or (take count fields) k 0)) out) (length-take-le count fields h)
    ∙ fold_same (λ k xs. set xs (at + width * k) (get_or (take count fields) k 0)) (λ k xs. set xs (at + width * k) (get_or fields k 0)) out count (λ k l xs. ap (set xs (at + width * k)) (get_or-take count fields k 0 l))

pub steps_lay :
    (s out : List ℕ) (n depth : ℕ) (net : Network) {parents roots flags copy with both : List ℕ} {nodes links : ℕ} → nodes ≡ nodes_of net → links ≡ links_of net
    → nodes ≤ length parents → links ≤ length flags → n ≤ length s → n ≤ length out
    → parents ≡ laid_parents net depth → roots ≡ roots_of (laid_parents net depth) (nodes_of net) → flags ≡ first_flags roots net.lowers net.uppers (links_of net)
    → copy ≡ take n s → with ≡ with_fields (take nodes parents) (length (take nodes parents)) 5 5 (copy ++ drop n out)
    → both ≡ with_fields (take links flags) (length (take links flags)) (3 + 5 * nodes + 3) 4 with
    → both ≡ laid_over s n net depth out
unfolding laid_over with_parents with_flags
steps_lay s out n depth net {parents} {roots} {flags} {copy} {with} {both} {nodes} {links} a b i j k l c d e f g h =
    let copied_out : copy ++ drop n out ≡ copied s n out = ap (λ x. x ++ drop n out) f ∙ sym (copied_is s n out k l) in
    let all_parents = fields_front parents nodes 5 5 (copy ++ drop n out) i in
    let all_flags = fields_front flags links (3 + 5 * nodes + 3) 4 with j in
    cc
