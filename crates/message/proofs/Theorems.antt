-- What the reading promises beyond its rows. Assumes nothing.
use Prim.Native.Nat.{ℕ, ◌+◌, ◌*◌, ◌≤◌, ◌<◌}
use Rattle.escapes.specs.Placing.{place_of}
use Rattle.fields.proofs.LetterLaws as values
use Rattle.fields.specs.Field.{keeps, letter_rule}
use Rattle.values.specs.Spans.{spelling_at, text_at}
use Rattle.values.specs.Value.{is_string}
use Rattle.json_text.proofs.Bound.{bound}
use Rattle.json_text.proofs.VerdictLaws.{verdict-answer, one-verdict, text-counts, never-many}
use Rattle.json_text.specs.Places.{bytes, members}
use Rattle.json_text.specs.Rfc7159.{JSON, JSON-text}
use Rattle.json_text.specs.Values.{count}
use Rattle.json_text.specs.Verdict as grammar
use Rattle.json_text.specs.Verdict.{Few, TooMany, Verdict}
use Rattle.json_text.specs.inner.Tour.{visited}
use Rattle.letters.specs.BadLetter.{BadLetter}
use Rattle.message.proofs.ReadingLaws.{too_short, too_long, in_bounds, read_of}
use Rattle.message.specs.Checks.{asks, breaks, missing, broken, broken_place, checked}
use Rattle.fields.specs.Known.{empty, noted, repeated}
use Rattle.message.specs.Message.{first_setting, setting_of, disagrees}
use Rattle.message.specs.Reading.{unless, agreed, ample, settled, judged, known, shaped, on_json, on_utf8, reading, reporting, uncounted}
use Rattle.message.specs.Shape.{tag_of, object_of}
use Rattle.message.specs.declared.refusals.Refusal.TheVariants.{Length, Utf8, Json, Deep, Shape, Twice, Missing, Rule, Disagree, Many}
use Rattle.message.specs.declared.refusals.Refusal.{Refusal}
use Rattle.message.specs.declared.facts.Message.{Message}
use Rattle.fields.specs.declared.judging.Setting.{Setting}
use Rattle.message.specs.Refusal.{Reading, number}
use Rattle.message.specs.declared.reading.Report.{Report}
use Rattle.octets.proofs.TestLaws.{and_parts, picked}
use Rattle.rules.specs.Names.{fields}
use Rattle.utf8.specs.Rfc3629.{verdict, Verdict as Utf8Verdict}
use borrow.Author.Tests.{not-true}
use lib.Dec.{eqb, ltb}
use lib.ListN.{get_or, length}
use mathlib.Core.Bool.{Bool, true, false, not, ◌&&◌, cond}
use mathlib.Core.List.{List}
use mathlib.Core.Logic.{◌↔◌, ◌⊎◌, inl, inr}
use mathlib.Core.Path.{◌≡◌, refl, sym, ap, subst, ◌∙◌}
use native.Mathlib.Decide.{ℕ_discrete, dec_lt}
use native.Mathlib.Omega.{arith}
use Rattle.json_text.specs.declared.Fault.{Fault as JsonFault}
use Rattle.json_text.specs.declared.Fault.TheVariants as faults
use Rattle.std.specs.Prelude.{Result, Ok, Err}

-- rows 2 and 3 pass
pub record Passes (s : List ℕ) : Type 0 where
  pub some : 1 ≤ length s
  pub short : length s ≤ 32768
  pub utf8 : verdict s ≡ Ok tt

-- where they do, the reading goes by RFC 7159's own verdict
by-verdict : (c : ℕ) (s : List ℕ) → Passes s → (g : Result ℕ JsonFault) → Verdict c s g → reporting c s ≡ on_json s g
by-verdict c s p g v =
    in_bounds c s (λ e. omega (arith, p.some)) p.short ∙ ap (on_utf8 c s) p.utf8 ∙ ap (on_json s) (sym (verdict-answer c s g v))

-- an answer of the rows from 6 on: one of their numbers, or what is read
pub data Late : Reading → Type 0 where
  refused : {e : Refusal} → 6 ≤ number e → number e ≤ 10 → Late (Err e)
  read : {m : Message} → Late (Ok m)

late_choose : (b : Bool) {x y : Reading} → Late x → Late y → Late (cond b x y)
late_choose b = picked Late b

-- a run of rows 8 and 9
late-run : (a b : Bool) (p q : ℕ) {r : Reading} → Late r → Late (unless (cond a (Err (Missing p)) (cond b (Err (Rule q)) (Ok tt))) r)
late-run true b p q r = refused {e = Missing p} (omega arith) (omega arith)
late-run false true p q r = refused {e = Rule q} (omega arith) (omega arith)
late-run false false p q r = r

module _ (s : List ℕ) where
  late-checked : (run : Bool) (k : Setting) (t : List ℕ) {r : Reading} → Late r → Late (unless (checked s run k t) r)
  unfolding checked
  late-checked run k t r =
      late-run (ltb 0 (missing run k t)) (ltb 0 (broken s run k t)) (missing run k t) (broken_place s k t (broken s run k t)) r

  late-agreed : (k : Setting) (t : List ℕ) → Late (agreed s k t)
  unfolding agreed
  late-agreed k t = late_choose (disagrees s k t) (refused {e = Disagree} (omega arith) (omega arith)) read

  late-settled : (k : Setting) (t : List ℕ) → Late (settled s k t)
  unfolding settled
  late-settled k t = late_choose (eqb k.tag 1) (late-checked false k t (late-agreed k t)) (late-agreed k t)

  late-judged : (tag : ℕ) (t : List ℕ) → Late (judged s tag t)
  unfolding judged
  late-judged tag t =
      late-checked true (first_setting tag) t (late_choose (ltb 2 tag) read (late-settled (setting_of s tag t) t))

  late-known : (tag : ℕ) (qs : List ℕ) → Late (known s tag qs)
  unfolding known
  late-known tag qs =
      late_choose (ltb 0 (repeated fields s empty qs)) (refused {e = Twice (repeated fields s empty qs)} (omega arith) (omega arith)) (late-judged tag (noted fields s empty qs))

  late-shaped : Late (shaped s)
  unfolding shaped
  late-shaped = late_choose (eqb (tag_of s) 0) (refused {e = Shape} (omega arith) (omega arith)) (late-known (tag_of s) (members s (object_of s)))

not_late : {r : Reading} (e : Refusal) → Late r → r ≡ Err e → (number e < 6) ⊎ (10 < number e) → ⊥
not_late e (refused {e = d} a b) q (inl h) = let z : d ≡ e = cc in let w : number d ≡ number e = ap number z in omega arith
not_late e (refused {e = d} a b) q (inr h) = let z : d ≡ e = cc in let w : number d ≡ number e = ap number z in omega arith
not_late e read q h = let z : ◌≡◌ {A = ℕ} 0 1 = cc in omega arith

-- which row answers, of 2 and 3 and those behind them, and what is reported
data Row (c : ℕ) (s : List ℕ) : Type 0 where
  second : reporting c s ≡ uncounted Length → Row c s
  third : (p : ℕ) → reporting c s ≡ uncounted (Utf8 p) → Row c s
  behind : Passes s → (g : Result ℕ JsonFault) → Verdict c s g → reporting c s ≡ on_json s g → Row c s

row : (c : ℕ) (s : List ℕ) → Row c s
row c s = sized (ℕ_discrete (length s) 0) (dec_lt 32768 (length s))
  where
    passing : 1 ≤ length s → length s ≤ 32768 → (u : Utf8Verdict) → verdict s ≡ u → Row c s
    passing a b (Ok _) e =
        let p : Passes s = record { some = a; short = b; utf8 = e } in
        let v = one-verdict c s in
        behind p v.0 v.1.0 (by-verdict c s p v.0 v.1.0)
    passing a b (Err p) e = third p (in_bounds c s (λ z. omega arith) b ∙ ap (on_utf8 c s) e)

    sized : Dec (length s ≡ 0) → Dec (32768 < length s) → Row c s
    sized (yes a) b = second (sym (too_short c s a))
    sized (no a) (yes b) = second (sym (too_long c s b))
    sized (no a) (no b) = passing (omega arith) (omega arith) (verdict s) refl

-- what is read where r is reported
module _ (c : ℕ) (s : List ℕ) where
  told : {r : Report} {x : Reading} → reporting c s ≡ r → reading c s ≡ x → r.reading ≡ x
  told e q = read_of c s (sym e) ∙ q

  tells : {r : Report} → reporting c s ≡ r → reading c s ≡ r.reading
  tells e = sym (read_of c s (sym e))

-- what the grammar says of a text, by what the rows behind 3 answer
module _ (c : ℕ) (s : List ℕ) where
  is-four : (p : ℕ) (g : Result ℕ JsonFault) → Verdict c s g → (on_json s g).reading ≡ Err (Json p) → grammar.Refused 8 s p × Few c s p
  is-four p (Ok n) v q = absurd (not_late (Json p) (late-shaped s) q (inl (omega arith)))
  is-four p (Err (faults.Bad k)) v q = let z : k ≡ p = cc in subst (λ (i : ℕ). grammar.Refused 8 s i × Few c s i) z v
  is-four p (Err (faults.Deep k)) v q = absurd (let z : ◌≡◌ {A = ℕ} 0 1 = cc in omega arith)
  is-four p (Err (faults.Many k)) v q = absurd (let z : ◌≡◌ {A = ℕ} 0 1 = cc in omega arith)

  is-five : (p : ℕ) (g : Result ℕ JsonFault) → Verdict c s g → (on_json s g).reading ≡ Err (Deep p) → grammar.TooDeep 8 s p × Few c s p
  is-five p (Ok n) v q = absurd (not_late (Deep p) (late-shaped s) q (inl (omega arith)))
  is-five p (Err (faults.Bad k)) v q = absurd (let z : ◌≡◌ {A = ℕ} 0 1 = cc in omega arith)
  is-five p (Err (faults.Deep k)) v q = let z : k ≡ p = cc in subst (λ (i : ℕ). grammar.TooDeep 8 s i × Few c s i) z v
  is-five p (Err (faults.Many k)) v q = absurd (let z : ◌≡◌ {A = ℕ} 0 1 = cc in omega arith)

  is-eleven : (p : ℕ) (g : Result ℕ JsonFault) → Verdict c s g → (on_json s g).reading ≡ Err (Many p) → TooMany c s p
  is-eleven p (Ok n) v q = absurd (not_late (Many p) (late-shaped s) q (inr (omega arith)))
  is-eleven p (Err (faults.Bad k)) v q = absurd (let z : ◌≡◌ {A = ℕ} 0 1 = cc in omega arith)
  is-eleven p (Err (faults.Deep k)) v q = absurd (let z : ◌≡◌ {A = ℕ} 0 1 = cc in omega arith)
  is-eleven p (Err (faults.Many k)) v q = let z : k ≡ p = cc in subst (TooMany c s) z v

  is-text : (g : Result ℕ JsonFault) → Verdict c s g → Late (on_json s g).reading → (x : JSON-text 8 s) × (count 8 s x ≤ c)
  is-text (Ok n) v l = (v.0, omega (arith, v.1))
  is-text (Err (faults.Bad k)) v l = absurd (not_late (Json k) l refl (inl (omega arith)))
  is-text (Err (faults.Deep k)) v l = absurd (not_late (Deep k) l refl (inl (omega arith)))
  is-text (Err (faults.Many k)) v l = absurd (not_late (Many k) l refl (inr (omega arith)))

  its_count : (g : Result ℕ JsonFault) → g ≡ visited c s → Late (on_json s g).reading → (x : JSON-text 8 s) → (on_json s g).count ≡ count 8 s x
  its_count (Ok n) v l x = text-counts c s (sym v) x
  its_count (Err (faults.Bad k)) v l x = absurd (not_late (Json k) l refl (inl (omega arith)))
  its_count (Err (faults.Deep k)) v l x = absurd (not_late (Deep k) l refl (inl (omega arith)))
  its_count (Err (faults.Many k)) v l x = absurd (not_late (Many k) l refl (inr (omega arith)))

  no-count : (g : Result ℕ JsonFault) (r : Refusal) → (on_json s g).reading ≡ Err r → (number r < 6) ⊎ (10 < number r) → (on_json s g).count ≡ 0
  no-count (Ok m) r q h = absurd (not_late r (late-shaped s) q h)
  no-count (Err (faults.Bad k)) r q h = refl
  no-count (Err (faults.Deep k)) r q h = refl
  no-count (Err (faults.Many k)) r q h = refl

  to-four : (p : ℕ) → Row c s → reading c s ≡ Err (Json p) → Passes s × (grammar.Refused 8 s p × Few c s p)
  to-four p (second e) q = absurd (let y = told c s e q in let z : ◌≡◌ {A = ℕ} 0 1 = cc in omega arith)
  to-four p (third k e) q = absurd (let y = told c s e q in let z : ◌≡◌ {A = ℕ} 0 1 = cc in omega arith)
  to-four p (behind a g v e) q = (a, is-four p g v (told c s e q))

  to-five : (p : ℕ) → Row c s → reading c s ≡ Err (Deep p) → Passes s × (grammar.TooDeep 8 s p × Few c s p)
  to-five p (second e) q = absurd (let y = told c s e q in let z : ◌≡◌ {A = ℕ} 0 1 = cc in omega arith)
  to-five p (third k e) q = absurd (let y = told c s e q in let z : ◌≡◌ {A = ℕ} 0 1 = cc in omega arith)
  to-five p (behind a g v e) q = (a, is-five p g v (told c s e q))

  to-eleven : (p : ℕ) → Row c s → reading c s ≡ Err (Many p) → Passes s × TooMany c s p
  to-eleven p (second e) q = absurd (let y = told c s e q in let z : ◌≡◌ {A = ℕ} 0 1 = cc in omega arith)
  to-eleven p (third k e) q = absurd (let y = told c s e q in let z : ◌≡◌ {A = ℕ} 0 1 = cc in omega arith)
  to-eleven p (behind a g v e) q = (a, is-eleven p g v (told c s e q))

  to-text : Row c s → Late (reading c s) → Passes s × ((x : JSON-text 8 s) × (count 8 s x ≤ c))
  to-text (second e) l = absurd (not_late Length l (tells c s e) (inl (omega arith)))
  to-text (third k e) l = absurd (not_late (Utf8 k) l (tells c s e) (inl (omega arith)))
  to-text (behind a g v e) l = (a, is-text g v (subst Late (tells c s e) l))

  to-count : Row c s → Late (reading c s) → (x : JSON-text 8 s) → (reporting c s).count ≡ count 8 s x
  to-count (second e) l x = absurd (not_late Length l (tells c s e) (inl (omega arith)))
  to-count (third k e) l x = absurd (not_late (Utf8 k) l (tells c s e) (inl (omega arith)))
  to-count (behind a g v e) l x = ap (λ (r : Report). r.count) e ∙ its_count g (verdict-answer c s g v) (subst Late (tells c s e) l) x

  to_none : Row c s → (r : Refusal) → reading c s ≡ Err r → (number r < 6) ⊎ (10 < number r) → (reporting c s).count ≡ 0
  to_none (second e) r q h = ap (λ (x : Report). x.count) e
  to_none (third k e) r q h = ap (λ (x : Report). x.count) e
  to_none (behind a g v e) r q h = ap (λ (x : Report). x.count) e ∙ no-count g r (told c s e q) h

  from-text : Passes s × ((x : JSON-text 8 s) × (count 8 s x ≤ c)) → reading c s ≡ shaped s
  from-text (a, (x, l)) = tells c s (by-verdict c s a (Ok (count 8 s x)) (x, (refl, l)))

-- THEOREM: 4, 5 and 11, and whether row 6 is reached, go by RFC 7159's grammar, both ways; and so does the count. The rows from 6 on have other numbers.
pub record ByTheGrammar (c : ℕ) (s : List ℕ) : Type 0 where
  -- 4 at p exactly if the grammar refuses the text at p, and no value before p is too many
  pub four : (p : ℕ) → (reading c s ≡ Err (Json p)) ↔ (Passes s × (grammar.Refused 8 s p × Few c s p))
  -- 5 at p exactly if the text nests too deep at p, and no value before p is too many
  pub five : (p : ℕ) → (reading c s ≡ Err (Deep p)) ↔ (Passes s × (grammar.TooDeep 8 s p × Few c s p))
  -- 11 at p exactly if the value that begins at p is one too many
  pub eleven : (p : ℕ) → (reading c s ≡ Err (Many p)) ↔ (Passes s × TooMany c s p)
  -- on to row 6 exactly if it is a text of the grammar, nested at most eight deep, with no more values than the ceiling
  pub six : (reading c s ≡ shaped s) ↔ (Passes s × ((x : JSON-text 8 s) × (count 8 s x ≤ c)))
  pub late : Late (shaped s)
  -- accepted, or refused by 6 to 10: the count is that of the text, by every derivation
  pub counted : Late (reading c s) → JSON-text 8 s × ((x : JSON-text 8 s) → (reporting c s).count ≡ count 8 s x)
  -- refused by 2 to 5 or 11: the count is 0
  pub none : (r : Refusal) → reading c s ≡ Err r → (number r < 6) ⊎ (10 < number r) → (reporting c s).count ≡ 0

pub by_the_grammar : (c : ℕ) (s : List ℕ) → ByTheGrammar c s
by_the_grammar c s =
    record {
      four = λ p. (to-four c s p (row c s), λ h. tells c s (by-verdict c s h.0 (Err (faults.Bad p)) h.1));
      five = λ p. (to-five c s p (row c s), λ h. tells c s (by-verdict c s h.0 (Err (faults.Deep p)) h.1));
      eleven = λ p. (to-eleven c s p (row c s), λ h. tells c s (by-verdict c s h.0 (Err (faults.Many p)) h.1));
      six = (λ q. to-text c s (row c s) (subst Late (sym q) (late-shaped s)), from-text c s);
      late = late-shaped s;
      counted = λ l. ((to-text c s (row c s) l).1.0, to-count c s (row c s) l);
      none = to_none c s (row c s);
    }

-- THEOREM: the count that is reported is at most the ceiling, and twice it at most the bytes and one
pub counts-few : (c : ℕ) (s : List ℕ) → ((reporting c s).count ≤ c) × (2 * (reporting c s).count ≤ length s + 1)
counts-few c s = by (row c s)
  where
    on : (g : Result ℕ JsonFault) → Verdict c s g → ((on_json s g).count ≤ c) × (2 * (on_json s g).count ≤ length s + 1)
    on (Ok n) (x, (e, l)) = (l, omega (arith, bound 8 s x))
    on (Err (faults.Bad p)) v = (omega arith, omega arith)
    on (Err (faults.Deep p)) v = (omega arith, omega arith)
    on (Err (faults.Many p)) v = (omega arith, omega arith)

    by : Row c s → ((reporting c s).count ≤ c) × (2 * (reporting c s).count ≤ length s + 1)
    by (second e) = rw e (omega arith, omega arith)
    by (third p e) = rw e (omega arith, omega arith)
    by (behind a g v e) = rw e (on g v)

-- THEOREM: no JSON text of 32,768 bytes, however deep, has more than 16,384 values, and none is answered 11 at that ceiling
pub never-more : (d : ℕ) (s : List ℕ) (x : JSON-text d s) → length s ≤ 32768 → count d s x ≤ ample
never-more d s x h = omega (arith, bound d s x)

pub never-eleven : (s : List ℕ) (p : ℕ) → JSON s → reading ample s ≡ Err (Many p) → ⊥
never-eleven s p x e = let q = ((by_the_grammar ample s).eleven p).0 e in never-many ample s p x (omega (arith, q.0.short)) q.1

-- two answers that the contract of `read_and_count` allows are equal
pub read-determined : (c : ℕ) (s : List ℕ) (a b : Report) → a ≡ reporting c s → b ≡ reporting c s → a ≡ b
read-determined c s a b e f = e ∙ sym f

-- p is the place of field n's first bad letter (02 §12): the field's rule is asked of its text, and the place is where that letter is spelled, behind the
-- opening quote
pub record AtBadLetter (s t : List ℕ) (n p : ℕ) : Type 0 where
  pub letter : ℕ
  pub bad : BadLetter (letter_rule n) (text_at s (get_or t n 0)) letter
  pub place : p ≡ get_or t n 0 + (1 + place_of (spelling_at s (get_or t n 0)) letter)

-- THEOREM: where row 9 refuses a message for one of the fields 1 to 5 whose value is a string, its place is that of the bad letter
pub bad-letter : (s : List ℕ) (run : Bool) (k : Setting) (t : List ℕ) (n : ℕ) → 1 ≤ n → n ≤ 5 → breaks s run k t n ≡ true
    → is_string (bytes s (get_or t n 0)) ≡ true → AtBadLetter s t n (broken_place s k t n)
unfolding breaks spelling_at text_at
bad-letter s run k t n low high e is =
    let v = bytes s (get_or t n 0) in
    let f = (and_parts (ltb 0 (get_or t n 0)) (not (keeps k n v)) (and_parts (ltb 0 (asks run k n)) (ltb 0 (get_or t n 0) && not (keeps k n v)) e).1).1 in
    let b = values.bad-letter k n v low high is (not-true (keeps k n v) f) in
    record { letter = b.0; bad = b.1.0; place = ap (λ (p : ℕ). get_or t n 0 + p) b.1.1 }
