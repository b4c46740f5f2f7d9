-- Networks for worked values: of any parents, link ends and flags, with one round and no sets.
-- Assumes nothing.
use mathlib.Core.List.{List, []}
use Prim.Native.Nat.{ℕ}
use lib.ListN.{length}
use Rattle.network.specs.declared.Network.{Network}

abbrev pub network : List ℕ → List ℕ → List ℕ → List ℕ → Network
network parents lowers uppers flags =
    record {
      nodes = length parents;
      links = length lowers;
      rounds = 1;
      parents = parents;
      starts = [];
      lowers = lowers;
      uppers = uppers;
      flags = flags;
      neighbours = [];
      children = [];
      preferred = [];
    }
