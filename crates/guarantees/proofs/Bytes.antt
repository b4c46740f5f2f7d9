-- The twenty records as bytes beside the code's kinds and body lengths: the byte of kind is the kind's number, the body has the kind's length, and a
-- record that stands in the bytes is the one that the code's reader finds there.
-- Assumes nothing.
use Prim.Native.Nat.{ℕ, suc, ◌+◌, ◌-◌, ◌*◌, ◌<◌, ◌≤◌}
use native.Mathlib.Numerals.{add-one}
use native.Mathlib.Omega.{arith}
use mathlib.Core.Path.{◌≡◌, refl, sym, ◌∙◌, ap, subst}
use mathlib.Core.Bool.{Bool, true, false}
use mathlib.Core.List.{List, [], ◌∷◌}
use lib.ListN.{length, get_or, take, drop}
use lib.Seq.{drop-cons}
use Rattle.laws.specs.Choice.{if_b}
use Rattle.records.proofs.Codec.{held_within, held_at}
use Rattle.actions.specs.declared.Kind.{Kind}
use Rattle.actions.specs.declared.Place.{Place}
use Rattle.actions.specs.Kinds.{number_of, index_of, count, cell_of}
use Rattle.actions.specs.Table.{place_of}
use Rattle.actions.specs.Records.{names_of, Holds}
use Rattle.actions.specs.Records.{body_of as length_of}
use Rattle.actions.proofs.Numbers.{body_one_or_two}
use Rattle.automaton.specs.Actions.{Act, output, packet_sent, packet_delivered, ack_sent, ack_delivered, ok, subtree_ok_sent, subtree_ok_delivered, cluster_ok, body_of}
use Rattle.automaton.specs.Actions.{down_sent, down_delivered, preferred_sent, preferred_delivered, up_sent, up_delivered, cluster_go}
use Rattle.automaton.specs.Actions.{subtree_go_sent, subtree_go_delivered, go, input}
use Rattle.guarantees.specs.Kinds.{kind_of}
use Rattle.guarantees.specs.Reading.{names_link, cell_at}
use Rattle.guarantees.specs.Records.{record_of, kind_byte, Names}
use Rattle.guarantees.proofs.Tables.{action_of, place_as, named}
use Rattle.guarantees.proofs.Seats.{place_is, second_is}

-- a body: the two ends of a link, or one node
unfoldable body_bytes : Bool → ℕ → ℕ → List ℕ
body_bytes true p q = p ∷ q ∷ []
body_bytes false p q = p ∷ []

-- the action's body names a link
abbrev linked : Act → Bool
linked a = names_link (body_of a).place

record_is : (a : Act) → record_of a ≡ number_of (kind_of a) ∷ body_bytes (linked a) (body_of a).p (body_of a).q
unfolding record_of kind_of number_of body_of names_link body_bytes
record_is (output p) = refl
record_is (packet_sent p q) = refl
record_is (packet_delivered p q) = refl
record_is (ack_sent p q) = refl
record_is (ack_delivered p q) = refl
record_is (ok p) = refl
record_is (subtree_ok_sent p) = refl
record_is (subtree_ok_delivered p) = refl
record_is (cluster_ok p) = refl
record_is (down_sent p) = refl
record_is (down_delivered p) = refl
record_is (preferred_sent p q) = refl
record_is (preferred_delivered p q) = refl
record_is (up_sent p) = refl
record_is (up_delivered p) = refl
record_is (cluster_go p) = refl
record_is (subtree_go_sent p) = refl
record_is (subtree_go_delivered p) = refl
record_is (go p) = refl
record_is (input p) = refl

pub kind_byte_lem : (a : Act) → kind_byte a ≡ number_of (kind_of a)
unfolding kind_byte
kind_byte_lem a = ap (λ l. get_or l 0 0) (record_is a)

-- the byte of the action of a kind
pub byte_of : (k : Kind) (p q : ℕ) → kind_byte (action_of k p q) ≡ number_of k
byte_of k p q = kind_byte_lem (action_of k p q) ∙ ap number_of (named k p q).kind

-- the code counts in the same row
pub cell_is : (a : Act) (x : ℕ) → cell_at a x ≡ cell_of (count (kind_of a) x)
unfolding cell_at cell_of index_of
cell_is a x = ap (λ n. (n - 16) * 256 + x) (kind_byte_lem a)

-- ---- how long a record is

body_length_lem : (t : Bool) (p q : ℕ) → length (body_bytes t p q) ≡ if_b t 2 1
unfolding body_bytes if_b
body_length_lem true p q = refl
body_length_lem false p q = refl

length_of_lem : (k : Kind) → length_of k ≡ if_b (names_link (place_as (place_of k))) 2 1
unfolding length_of names_of names_link place_as if_b
length_of_lem k = by (place_of k)
  where
    by : (w : Place) → names_of w ≡ if_b (names_link (place_as w)) 2 1
    by Place.Node = refl
    by Place.Link = refl
    by Place.PreferredLink = refl
    by Place.Child = refl
    by Place.Root = refl

length_by_place : (a : Act) → length_of (kind_of a) ≡ if_b (linked a) 2 1
length_by_place a = length_of_lem (kind_of a) ∙ ap (λ w. if_b (names_link w) 2 1) (sym (place_is a))

pub record_length : (a : Act) → length (record_of a) ≡ length_of (kind_of a) + 1
record_length a =
    ap length (record_is a) ∙ ap suc (body_length_lem (linked a) (body_of a).p (body_of a).q ∙ sym (length_by_place a)) ∙ sym (add-one (length_of (kind_of a)))

pub length_of_kind : (k : Kind) (p q : ℕ) → length (record_of (action_of k p q)) ≡ length_of k + 1
length_of_kind k p q = record_length (action_of k p q) ∙ ap (λ j. length_of j + 1) (named k p q).kind

-- ---- a record that stands in the bytes is the one that the reader finds

first_of : (n : ℕ) (t : Bool) (p q : ℕ) → get_or (n ∷ body_bytes t p q) 1 0 ≡ p
unfolding body_bytes
first_of n true p q = refl
first_of n false p q = refl

last_of : (n : ℕ) (t : Bool) (p q : ℕ) → get_or (n ∷ body_bytes t p q) (if_b t 2 1) 0 ≡ if_b t q p
unfolding body_bytes if_b
last_of n true p q = refl
last_of n false p q = refl

two_stand : (s : List ℕ) (at x y : ℕ) → at + 1 < length s → get_or s at 0 ≡ x → get_or s (at + 1) 0 ≡ y → take 2 (drop at s) ≡ x ∷ y ∷ []
two_stand s at x y h ex ey =
    ap (take 2) (drop-cons s at 0 (omega arith) ∙ ap (λ l. get_or s at 0 ∷ l) (drop-cons s (suc at) 0 (omega arith)))
    ∙ (λ i. ex i ∷ (ap (λ n. get_or s n 0) (sym (add-one at)) ∙ ey) i ∷ [])

three_stand : (s : List ℕ) (at x y z : ℕ) → at + 2 < length s → get_or s at 0 ≡ x → get_or s (at + 1) 0 ≡ y → get_or s (at + 2) 0 ≡ z → take 3 (drop at s) ≡ x ∷ y ∷ z ∷ []
three_stand s at x y z h ex ey ez =
    ap (take 3) (drop-cons s at 0 (omega arith) ∙ ap (λ l. get_or s at 0 ∷ l) (drop-cons s (suc at) 0 (omega arith) ∙ ap (λ l. get_or s (suc at) 0 ∷ l) (drop-cons s (suc (suc at)) 0 (omega arith))))
    ∙ (λ i. ex i ∷ (ap (λ n. get_or s n 0) one ∙ ey) i ∷ (ap (λ n. get_or s n 0) two ∙ ez) i ∷ [])
  where
    one : suc at ≡ at + 1
    one = omega arith

    two : suc (suc at) ≡ at + 2
    two = omega arith

module _ (bytes : List ℕ) (at : ℕ) (a : Act) (w : ℕ) where
  pub names_holds : Names bytes at a w → Holds bytes at (kind_of a) (body_of a).p (body_of a).q w
  names_holds h =
      record {
        within = omega (arith, h.whole, inside);
        kind = held_at bytes at (record_of a) h.stands 0 at (omega arith) (omega (arith, record_length a)) ∙ ap (λ l. get_or l 0 0) (record_is a);
        whole = h.whole ∙ record_length a;
        first = byte 1 (omega (arith, record_length a, (body_one_or_two (kind_of a)).0)) ∙ first_of (number_of (kind_of a)) (linked a) (body_of a).p (body_of a).q;
        last =
            byte (length_of (kind_of a)) (omega (arith, record_length a)) ∙ ap (λ (n : ℕ). get_or (number_of (kind_of a) ∷ body_bytes (linked a) (body_of a).p (body_of a).q) n 0) (length_by_place a)
            ∙ last_of (number_of (kind_of a)) (linked a) (body_of a).p (body_of a).q
            ∙ sym (second_is a);
      }
    where
      inside : at + length (record_of a) ≤ length bytes
      inside = held_within bytes at (record_of a) h.stands (omega (arith, record_length a))

      byte : (j : ℕ) → j < length (record_of a) → get_or bytes (at + j) 0 ≡ get_or (number_of (kind_of a) ∷ body_bytes (linked a) (body_of a).p (body_of a).q) j 0
      byte j l = held_at bytes at (record_of a) h.stands j (at + j) refl l ∙ ap (λ l. get_or l j 0) (record_is a)

  pub holds_names : Holds bytes at (kind_of a) (body_of a).p (body_of a).q w → Names bytes at a w
  unfolding body_bytes if_b
  holds_names h =
      record {
        whole = h.whole ∙ sym (record_length a);
        stands = subst (λ (l : List ℕ). take (length l) (drop at bytes) ≡ l) (sym (record_is a)) (by (linked a) (length_by_place a) (second_is a));
      }
    where
      by : (t : Bool) → length_of (kind_of a) ≡ if_b t 2 1 → (body_of a).q ≡ if_b t (body_of a).q (body_of a).p
          → take (length (number_of (kind_of a) ∷ body_bytes t (body_of a).p (body_of a).q)) (drop at bytes) ≡ number_of (kind_of a) ∷ body_bytes t (body_of a).p (body_of a).q
      by true l s =
          three_stand bytes at (number_of (kind_of a)) (body_of a).p (body_of a).q (omega (arith, h.within, h.whole)) h.kind h.first (ap (λ n. get_or bytes (at + n) 0) (sym l) ∙ h.last)
      by false l s = two_stand bytes at (number_of (kind_of a)) (body_of a).p (omega (arith, h.within, h.whole)) h.kind h.first

-- it is two or three bytes long and stands within the bytes
pub names_inside : {bytes : List ℕ} {at : ℕ} {a : Act} {w : ℕ} → Names bytes at a w → (1 < w) × (at + w ≤ length bytes)
names_inside {bytes} {at} {a} {w} h =
    let held = names_holds bytes at a w h in
    (omega (arith, held.whole, (body_one_or_two (kind_of a)).0), held.within)
