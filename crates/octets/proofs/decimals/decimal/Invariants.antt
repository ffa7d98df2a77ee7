-- `octets::decimals::decimal` meets its contract. The loop keeps that the digits passed give v, and that the rest decides the answer. Assumes nothing.
use Prim.Native.Nat.{◌<◌}
use Rattle.octets.proofs.decimals.decimal.Given as goal
use Rattle.octets.specs.Class.{all, is_digit}
use Rattle.octets.specs.Decimal.{tens, decimal_of}
use lib.ListN.{drop}
use mathlib.Core.Path.{◌≡◌}

abbrev pub invariant-loop-b : goal.invariant-loop-b
invariant-loop-b l = record {
  digits : all is_digit l.s ≡ all is_digit (drop l.b-index l.s);
  so_far : decimal_of l.s ≡ tens l.v (drop l.b-index l.s);
  fits : l.v < 18446744073709551616;
}
