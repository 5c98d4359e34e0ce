-- What the lists and numbers that a call is lent make.
use Rattle.std.specs.Prelude.{ℕ, List, Float}
use Rattle.network.specs.Network.{Network}
use Rattle.transition.specs.declared.step.Settings.{Settings}

-- the network of twelve lists
abbrev pub network_of : List Float → List Float → List ℕ → List ℕ → List ℕ → List ℕ → List ℕ → List ℕ → List ℕ → List ℕ → List ℕ → List ℕ → Network
network_of lengths headings flags from to from_side to_side forward backward counts firsts lasts = record {
  lengths = lengths;
  headings = headings;
  flags = flags;
  relations = record { from = from; to = to; from_side = from_side; to_side = to_side; forward = forward; backward = backward };
  windows = record { counts = counts; firsts = firsts; lasts = lasts };
}

abbrev pub settings_of : Float → Float → Settings
settings_of beta scale = record { beta = beta; scale = scale }
