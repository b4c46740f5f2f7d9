-- What holds of every kind is a test computed over the table of kinds: each kind stands there, at its own index.
-- Assumes nothing.
use Prim.Native.Nat.{ℕ, ◌+◌, ◌-◌, ◌<◌, ◌≤◌}
use mathlib.Core.Path.{◌≡◌, refl, subst}
use mathlib.Core.Bool.{Bool, true}
use lib.Dec.{lit<, eqb, leb}
use lib.ListN.{length, get_or}
use borrow.Author.Tests.{eqb-true, leb-true}
use Rattle.laws.specs.Below.{all_below}
use Rattle.laws.specs.Choice.{if_b, both}
use Rattle.laws.proofs.Below.{all_at, list_at}
use Rattle.actions.specs.declared.Kind.{Kind}
use Rattle.actions.specs.declared.Kind.TheVariants.{Output, PacketSent, PacketDelivered, AckSent, AckDelivered, Ok, SubtreeOkSent, SubtreeOkDelivered, ClusterOk, DownSent, DownDelivered, PreferredSent, PreferredDelivered, UpSent, UpDelivered, ClusterGo, SubtreeGoSent, SubtreeGoDelivered, Go, Input}
use Rattle.actions.specs.declared.Place.{Place}
use Rattle.actions.specs.Kinds.{number_of, kinds, index_of, kind_at}
use Rattle.actions.specs.Table.{place_of}
use Rattle.actions.specs.Records.{names_of, body_of, body_table}

-- each kind stands in the table, at its index
pub seated : (k : Kind) → (index_of k < length kinds) × (kind_at (index_of k) ≡ k)
unfolding index_of number_of kind_at
seated Output = (lit< tt, refl)
seated PacketSent = (lit< tt, refl)
seated PacketDelivered = (lit< tt, refl)
seated AckSent = (lit< tt, refl)
seated AckDelivered = (lit< tt, refl)
seated Ok = (lit< tt, refl)
seated SubtreeOkSent = (lit< tt, refl)
seated SubtreeOkDelivered = (lit< tt, refl)
seated ClusterOk = (lit< tt, refl)
seated DownSent = (lit< tt, refl)
seated DownDelivered = (lit< tt, refl)
seated PreferredSent = (lit< tt, refl)
seated PreferredDelivered = (lit< tt, refl)
seated UpSent = (lit< tt, refl)
seated UpDelivered = (lit< tt, refl)
seated ClusterGo = (lit< tt, refl)
seated SubtreeGoSent = (lit< tt, refl)
seated SubtreeGoDelivered = (lit< tt, refl)
seated Go = (lit< tt, refl)
seated Input = (lit< tt, refl)

-- a test that every entry of the table passes, every kind passes
pub every_kind : (t : Kind → Bool) → all_below (λ i. t (kind_at i)) (length kinds) ≡ true → (k : Kind) → t k ≡ true
every_kind t all k =
    subst (λ j. t j ≡ true) (seated k).1 (all_at (λ i. t (kind_at i)) (length kinds) all (index_of k) (seated k).0)

pub number_from_16 : (k : Kind) → 16 ≤ number_of k
unfolding number_of kind_at all_below both if_b
number_from_16 k = leb-true 16 (number_of k) (every_kind (λ j. leb 16 (number_of j)) refl k)

-- the number of the kind at an index
pub number_at : (i : ℕ) → i < length kinds → number_of (kind_at i) ≡ 16 + i
unfolding number_of kind_at all_below both if_b
number_at i h = eqb-true (number_of (kind_at i)) (16 + i) (all_at (λ j. eqb (number_of (kind_at j)) (16 + j)) (length kinds) refl i h)

-- a kind's number is that of the first kind and its index
pub placed : (k : Kind) → (16 ≤ number_of k) × (number_of k - 16 < length kinds)
unfolding index_of
placed k = (number_from_16 k, (seated k).0)

-- the table of body lengths has each kind's at the kind's index
pub body_at : (i : ℕ) → i < length kinds → get_or body_table i 0 ≡ body_of (kind_at i)
unfolding body_table
body_at i h = list_at (λ j. body_of (kind_at j)) (length kinds) i 0 h

-- "one or two node numbers"
names_one_or_two : (w : Place) → (0 < names_of w) × (names_of w < 3)
unfolding names_of
names_one_or_two Place.Node = (lit< tt, lit< tt)
names_one_or_two Place.Link = (lit< tt, lit< tt)
names_one_or_two Place.PreferredLink = (lit< tt, lit< tt)
names_one_or_two Place.Child = (lit< tt, lit< tt)
names_one_or_two Place.Root = (lit< tt, lit< tt)

pub body_one_or_two : (k : Kind) → (0 < body_of k) × (body_of k < 3)
unfolding body_of
body_one_or_two k = names_one_or_two (place_of k)
