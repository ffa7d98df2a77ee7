-- An object of Via is one by its members as they are read alone (`hop_pairs`, `pairs_hop`), so by its own bytes. Assumes nothing.
use Rattle.octets.proofs.TestLaws.{and_parts}
use Prim.Native.Nat.{ℕ, zero, suc, ◌≤◌, ◌<◌}
use Rattle.json_text.specs.Places.{bytes, members, spell}
use Rattle.fields.proofs.GatherLaws.{hop-few as hop-three}
use Rattle.message.proofs.PairLaws.{found, value_in, doubled, late-members, by-once, once_by, noted-none, noted-by}
use Rattle.fields.specs.Known.{empty, noted, repeated}
use Rattle.values.specs.Value.{ruled, word_spelled}
use Rattle.fields.specs.Via.{hop_places, hop_rule, hop_keeps, is_hop}
use Rattle.rules.specs.Names.{hop_members}
use borrow.Author.Tests.{eq-eqb, lt-ltb, eqb-true, ltb-true}
use lib.Dec.{eqb, ltb}
use lib.ListN.{get_or}
use mathlib.Core.Bool.{Bool, true, false}
use mathlib.Core.List.{List, map}
use mathlib.Core.Path.{◌≡◌, refl}
use native.Mathlib.Omega.{arith}

-- what makes an object one of Via
pub record HopBy (ms : List (List ℕ × List ℕ)) : Type 0 where
  pub once : doubled hop_members ms ≡ false
  pub there : (n : ℕ) → 1 ≤ n → n ≤ 3 → found hop_members n ms ≡ true
  pub kept : (n : ℕ) → 1 ≤ n → n ≤ 3 → ruled (hop_rule n) (value_in hop_members n ms) ≡ true

pub hop-few : (x : List ℕ) → word_spelled hop_members x < 27
hop-few x = omega (arith, hop-three x)

pub three : (P : ℕ → Type 0) → P 1 → P 2 → P 3 → (n : ℕ) → 1 ≤ n → n ≤ 3 → P n
three P a b c zero h g = absurd (omega arith)
three P a b c (suc zero) h g = a
three P a b c (suc (suc zero)) h g = b
three P a b c (suc (suc (suc zero))) h g = c
three P a b c (suc (suc (suc (suc n)))) h g = absurd (omega arith)

module _ (v : List ℕ) (o : ℕ) where
  abbrev ms : List (List ℕ × List ℕ)
  ms = map (spell v) (members v o)

  keeps-parts : (n : ℕ) → hop_keeps v (get_or (hop_places v o) n 0) n ≡ true
      → (0 < get_or (hop_places v o) n 0) × (ruled (hop_rule n) (bytes v (get_or (hop_places v o) n 0)) ≡ true)
  unfolding hop_keeps
  keeps-parts n e = let r = and_parts (ltb 0 (get_or (hop_places v o) n 0)) (ruled (hop_rule n) (bytes v (get_or (hop_places v o) n 0))) e in (ltb-true 0 _ r.0, r.1)

  member-by : (n : ℕ) → 0 < n → doubled hop_members ms ≡ false → hop_keeps v (get_or (hop_places v o) n 0) n ≡ true
      → (found hop_members n ms ≡ true) × (ruled (hop_rule n) (value_in hop_members n ms) ≡ true)
  unfolding hop_places
  member-by n h d e = by (found hop_members n ms) refl (keeps-parts n e)
    where
      by : (b : Bool) → found hop_members n ms ≡ b
          → (0 < get_or (noted hop_members v empty (members v o)) n 0) × (ruled (hop_rule n) (bytes v (get_or (noted hop_members v empty (members v o)) n 0)) ≡ true)
          → (b ≡ true) × (ruled (hop_rule n) (value_in hop_members n ms) ≡ true)
      by true f k = (refl, rw (noted-by hop_members hop-few v (members v o) n (late-members v o) h d f).1 at k.1)
      by false f k = absurd (omega (arith, k.0, noted-none hop_members hop-few v (members v o) n f))

  pub hop_pairs : is_hop v o ≡ true → (get_or v o 0 ≡ 123) × HopBy ms
  unfolding is_hop
  hop_pairs e =
      let p₀ = and_parts (eqb (get_or v o 0) 123) _ e in
      let p₁ = and_parts (eqb (repeated hop_members v empty (members v o)) 0) _ p₀.1 in
      let p₂ = and_parts (hop_keeps v (get_or (hop_places v o) 1 0) 1) _ p₁.1 in
      let p₃ = and_parts (hop_keeps v (get_or (hop_places v o) 2 0) 2) (hop_keeps v (get_or (hop_places v o) 3 0) 3) p₂.1 in
      let d = once_by hop_members hop-few v (members v o) (late-members v o) (eqb-true _ 0 p₁.0) in
      let a = member-by 1 (omega arith) d p₂.0 in
      let b = member-by 2 (omega arith) d p₃.0 in
      let c = member-by 3 (omega arith) d p₃.1 in (
        eqb-true (get_or v o 0) 123 p₀.0,
        record {
          once = d;
          there = three (λ n. found hop_members n ms ≡ true) a.0 b.0 c.0;
          kept = three (λ n. ruled (hop_rule n) (value_in hop_members n ms) ≡ true) a.1 b.1 c.1;
        },
      )

  keeps-by : (n : ℕ) → 1 ≤ n → n ≤ 3 → HopBy ms → hop_keeps v (get_or (hop_places v o) n 0) n ≡ true
  unfolding hop_keeps hop_places
  keeps-by n h g b =
      let r = noted-by hop_members hop-few v (members v o) n (late-members v o) h b.once (b.there n h g) in
      rw (lt-ltb 0 _ r.0, r.1) (b.kept n h g)

  pub pairs_hop : get_or v o 0 ≡ 123 → HopBy ms → is_hop v o ≡ true
  unfolding is_hop
  pairs_hop e b =
      rw (
        eq-eqb _ 123 e,
        by-once hop_members hop-few v (members v o) b.once,
        keeps-by 1 (omega arith) (omega arith) b,
        keeps-by 2 (omega arith) (omega arith) b,
        keeps-by 3 (omega arith) (omega arith) b,
      )
