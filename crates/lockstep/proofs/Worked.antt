-- Worked values of the rounding (document 02, W3), computed on the definitions: the whole of `table_of`, with the network's validity, in a buffer one
-- entry longer than the nodes. The starred trials, plans T and P among them, stand in `guarantees`.
-- Assumes nothing.
use Prim.Native.Nat.{ℕ, ◌-◌}
use mathlib.Core.Path.{◌≡◌, refl}
use mathlib.Core.List.{List, [], ◌∷◌, ◌++◌}
use lib.ListN.{length, replicate}
use Rattle.laws.specs.Choice.{if_b, if_lt, if_eq, both}
use Rattle.laws.specs.Below.{all_below, fold_below, list_below, over_below, pick_below}
use Rattle.laws.specs.Lists.{total}
use Rattle.laws.specs.Mean.{share_of, rule_of}
use Rattle.nodeset.specs.Marks.{digit, member, inserted, members_of, values_in}
use Rattle.network.specs.declared.Network.{Network}
use Rattle.network.specs.Sets.{towards, link_gives, link_set, child_set, with_sets}
use Rattle.network.specs.Valid.{within_limits, node_fits, rises, link_fits, link_rises, link_stands, agrees, valid_network}
use Rattle.lockstep.specs.Rounds.{next_by, round_by, rounds_by, lockstep_of}
use Rattle.lockstep.specs.Table.{table_number, table_of}

-- the entries, and zeros up to n
unfoldable pub filled : ℕ → List ℕ → List ℕ
filled n xs = xs ++ replicate (n - length xs) 0

-- two roots at a and b, one preferred link
unfoldable pub pair : ℕ → ℕ → ℕ → Network
pair rounds a b =
    with_sets
    (record {
      nodes = 2;
      links = 1;
      rounds = rounds;
      parents = filled 64 (0 ∷ 1 ∷ []);
      starts = filled 64 (a ∷ b ∷ []);
      lowers = filled 128 (0 ∷ []);
      uppers = filled 128 (1 ∷ []);
      flags = filled 128 (1 ∷ []);
      neighbours = [];
      children = [];
      preferred = [];
    })

-- a star, one cluster: its root 0 linked to 1, 2 and 3, with these values
unfoldable pub star : List ℕ → Network
star values =
    with_sets
    (record {
      nodes = 4;
      links = 3;
      rounds = 1;
      parents = filled 64 (0 ∷ 0 ∷ 0 ∷ 0 ∷ []);
      starts = filled 64 values;
      lowers = filled 128 (0 ∷ 0 ∷ 0 ∷ []);
      uppers = filled 128 (1 ∷ 2 ∷ 3 ∷ []);
      flags = filled 128 (0 ∷ 0 ∷ 0 ∷ []);
      neighbours = [];
      children = [];
      preferred = [];
    })

-- the answer and the buffer afterwards, of a buffer of sevens
abbrev pub asked : Network → ℕ → ℕ → ℕ × List ℕ
asked net rounds room = (table_number net rounds room, table_of net rounds (replicate room 7))

pub record Rounded : Type 0 where
  -- "Two at 1 and 2 now give 2; two at 0 and 1 give 0"; up to the largest value
  pub pair_1_2 : asked (pair 1 1 2) 1 3 ≡ (0, 2 ∷ 2 ∷ 7 ∷ [])
  pub pair_0_1 : asked (pair 1 0 1) 1 3 ≡ (0, 0 ∷ 0 ∷ 7 ∷ [])
  pub pair_2_3 : asked (pair 1 2 3) 1 3 ≡ (0, 2 ∷ 2 ∷ 7 ∷ [])
  pub pair_65534_65535 : asked (pair 1 65534 65535) 1 3 ≡ (0, 65534 ∷ 65534 ∷ 7 ∷ [])
  pub pair_65535_65535 : asked (pair 1 65535 65535) 1 3 ≡ (0, 65535 ∷ 65535 ∷ 7 ∷ [])
  -- four values have halves too: 6 / 4, 2 / 4; and 3 / 4 is nearer to 1
  pub star_6 : asked (star (0 ∷ 2 ∷ 2 ∷ 2 ∷ [])) 1 5 ≡ (0, 2 ∷ 1 ∷ 1 ∷ 1 ∷ 7 ∷ [])
  pub star_2 : asked (star (0 ∷ 1 ∷ 1 ∷ 0 ∷ [])) 1 5 ≡ (0, 0 ∷ 0 ∷ 0 ∷ 0 ∷ 7 ∷ [])
  pub star_3 : asked (star (3 ∷ 0 ∷ 0 ∷ 0 ∷ [])) 1 5 ≡ (0, 1 ∷ 2 ∷ 2 ∷ 2 ∷ 7 ∷ [])

pub rounded : Rounded
unfolding
    if_b if_lt if_eq both all_below fold_below list_below over_below digit member inserted towards link_gives link_set child_set with_sets within_limits
    node_fits rises link_fits link_rises link_stands agrees valid_network pick_below members_of values_in share_of total rule_of next_by round_by rounds_by
    lockstep_of table_number table_of filled pair star
rounded =
    record {
      pair_1_2 = refl;
      pair_0_1 = refl;
      pair_2_3 = refl;
      pair_65534_65535 = refl;
      pair_65535_65535 = refl;
      star_6 = refl;
      star_2 = refl;
      star_3 = refl;
    }
