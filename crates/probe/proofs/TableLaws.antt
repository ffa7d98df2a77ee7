-- Each answer of `blank`, `table` and `dump`, and the table that is held after it. Assumes nothing.
use Prim.Native.Nat.{ℕ, ◌+◌, ◌-◌, ◌≤◌}
use Rattle.lines.specs.Log.{Effect}
use Rattle.std.specs.Prelude.{None, Some, is_ok}
use Rattle.octets.proofs.Chain.{more, start}
use Rattle.octets.specs.Ascii.{ascii}
use Rattle.octets.specs.Class.{among}
use Rattle.octets.specs.Splice.{splice, written}
use Rattle.probe.specs.Tables.{blank_done, blank_made, dump_text, is_image, table_done, verdict_text}
use Rattle.probe.specs.Effect.{shows}
use Rattle.probe.specs.inner.Turned.{Turned}
use Rattle.showing.specs.Shown.{hexed, unknown}
use Rattle.showing.specs.Words.{hex_bytes, first_word, has_space, number_to, rest}
use Rattle.table.specs.Blank.{Made, blank_after, blank_answer, blank_fits, blank_of, made_if}
use Rattle.table.specs.WellFormed.{well_formed}
use lib.ListN.{drop, length, take, take-append-drop}
use lib.Seq.{drop_at, length-take-le, take_at}
use mathlib.Core.Bool.{Bool, true, false}
use mathlib.Core.List.{List, ◌++◌}
use mathlib.Core.Path.{◌≡◌, refl, sym, ap, ◌∙◌}
use native.Mathlib.Omega.{arith}

-- a text was written, and the first bytes of h are a table
pub turns : (o : List ℕ) (size : ℕ) (h t text : List ℕ) {d : Effect (List ℕ)} {n : ℕ} {o' : List ℕ} → d ≡ shows t text → (n ≡ length text) × (o' ≡ written o text) → take size h ≡ t
    → size ≤ 65536 → Turned d o n o' size h
turns o size h t text e w k small = rw e (record { text = w; table = k; small = small })

-- `?` was written, and the held table stays
pub stays : (o : List ℕ) (size : ℕ) (h : List ℕ) {d : Effect (List ℕ)} {n m : ℕ} {o' : List ℕ} → d ≡ shows (take size h) unknown
    → ((n ≡ length unknown) × (o' ≡ written o unknown)) × (m ≡ size) → size ≤ 65536 → Turned d o n o' m h
stays o size h e w small = rw w.1 (turns o size h (take size h) unknown e w.0 refl small)

-- `dump`
pub dumped : (o t : List ℕ) {m r : ℕ} {o' o'' : List ℕ} → (m ≡ 0 + length (hexed t)) × (o' ≡ splice o 0 (hexed t)) → (r ≡ m + 1) × (o'' ≡ splice o' m (ascii "\n"))
    → (r ≡ length (dump_text t)) × (o'' ≡ written o (dump_text t))
unfolding dump_text
dumped o t p q = let w = more (ascii "\n") (more (hexed t) (start o) p) q in (w.place, w.is)

-- Making a blank table of the first n bytes of h.

is_ok_made : (b : Bool) → is_ok (made_if b) ≡ b
is_ok_made true = refl
is_ok_made false = refl

module _ (h : List ℕ) (n count : ℕ) (fits : n ≤ length h) where
  lent : length (take (n - 0) h) ≡ n
  lent = let z : n - 0 ≡ n = omega arith in rw z (length-take-le n h fits)

  pub made : {m : Made} → m ≡ blank_answer (take (n - 0) h) count → is_ok m ≡ blank_fits count n
  made a = ap is_ok a ∙ rw lent (is_ok_made (blank_fits count n))

  -- the part put back
  pub made_held : (p : List ℕ) → length p ≡ n → p ≡ blank_after (take (n - 0) h) count
      → (take n (take 0 h ++ (p ++ drop (n - 0) (drop 0 h))) ≡ blank_after (take n h) count) × (drop n (take 0 h ++ (p ++ drop (n - 0) (drop 0 h))) ≡ drop n h)
  made_held p l e =
      let z : n - 0 ≡ n = omega arith in
      (take_at p (drop (n - 0) h) n l ∙ rw z at e, drop_at p (drop (n - 0) h) n l ∙ rw z)

-- What `blank` answers, by its two numbers.
module _ (t : List ℕ) (count len : ℕ) where
  is-blank : blank_fits count len ≡ true → blank_made t count len ≡ shows (blank_of count) (verdict_text true)
  unfolding blank_made
  is-blank e = simp e

  not-blank : blank_fits count len ≡ false → blank_made t count len ≡ shows t (verdict_text false)
  unfolding blank_made
  not-blank e = simp e

module _ (h : List ℕ) (n count : ℕ) (fits : n ≤ length h) (h' : List ℕ) (front : take n h' ≡ blank_after (take n h) count) where
  pub held-blank : blank_fits count n ≡ true → take n h' ≡ blank_of count
  held-blank e = front ∙ rw (length-take-le n h fits, e)

  pub held_stays : blank_fits count n ≡ false → drop n h' ≡ drop n h → h' ≡ h
  held_stays e k =
      let f : take n h' ≡ take n h = front ∙ rw (length-take-le n h fits, e) in
      sym (take-append-drop n h') ∙ rw (f, k) (take-append-drop n h)

-- the table that is held at first
pub first_fits : blank_fits 255 40816 ≡ true
unfolding blank_fits among
first_fits = refl

-- `blank`, by its words.
module _ (t words : List ℕ) where
  pub no_length : has_space words ≡ false → blank_done t words ≡ shows t unknown
  unfolding blank_done
  no_length e = simp e

  module _ (e : has_space words ≡ true) where
    pub no_count : number_to 65535 (first_word words) ≡ None → blank_done t words ≡ shows t unknown
    unfolding blank_done
    no_count k = rw (e, k) refl

    module _ {count : ℕ} (k : number_to 65535 (first_word words) ≡ Some count) where
      pub no_bytes : number_to 65536 (rest words) ≡ None → blank_done t words ≡ shows t unknown
      unfolding blank_done
      no_bytes l = rw (e, k, l) refl

      module _ {len : ℕ} (l : number_to 65536 (rest words) ≡ Some len) where
        both : blank_done t words ≡ blank_made t count len
        unfolding blank_done
        both = rw (e, k, l) refl

        pub blank-held : blank_fits count len ≡ true → blank_done t words ≡ shows (blank_of count) (verdict_text true)
        blank-held f = both ∙ is-blank t count len f

        pub blank-refused : blank_fits count len ≡ false → blank_done t words ≡ shows t (verdict_text false)
        blank-refused f = both ∙ not-blank t count len f

-- What `table` answers.
module _ (t w : List ℕ) where
  pub no-image : is_image w ≡ false → table_done t w ≡ shows t unknown
  unfolding table_done
  no-image e = simp e

  pub image : is_image w ≡ true → table_done t w ≡ shows (hex_bytes w) (verdict_text (well_formed (hex_bytes w)))
  unfolding table_done
  image e = simp e
