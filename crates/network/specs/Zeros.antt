-- The network that a refusal hands back.
-- Assumes nothing.
use Rattle.std.specs.Prelude.{replicate}
use Rattle.network.specs.declared.Network.{Network}

-- "a network of zeros"
unfoldable pub zero_network : Network
zero_network =
    record {
      nodes = 0;
      links = 0;
      rounds = 0;
      parents = replicate 64 0;
      starts = replicate 64 0;
      lowers = replicate 128 0;
      uppers = replicate 128 0;
      flags = replicate 128 0;
      neighbours = replicate 64 0;
      children = replicate 64 0;
      preferred = replicate 64 0;
    }
