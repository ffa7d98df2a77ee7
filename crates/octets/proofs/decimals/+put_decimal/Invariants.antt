-- `octets::decimals::put_decimal` meets its contract. By the digits of v / 10, which it calls itself for; v falls. Assumes nothing.
use Rattle.octets.proofs.decimals.+put_decimal.Given as goal

abbrev pub decreases-put_decimal : goal.decreases-put_decimal
decreases-put_decimal l = l.v
