-- Row 9 from its answer back: for which field a message is refused, on which of the row's two runs, and at which place. Assumes nothing.
use Prim.Native.Nat.{ℕ, ◌≤◌}
use Rattle.fields.specs.Known.{empty, noted, repeated}
use Rattle.values.specs.Value.{is_string}
use Rattle.fields.specs.declared.judging.Setting.{Setting}
use Rattle.json_text.specs.Places.{bytes, members}
use Rattle.json_text.specs.inner.Tour.{visited}
use Rattle.message.proofs.CheckLaws.{lowest-within}
use Rattle.message.proofs.Theorems.{AtBadLetter, bad-letter}
use Rattle.message.specs.Checks.{breaks, missing, broken, broken_place, checked}
use Rattle.message.specs.Message.{first_setting, setting_of, disagrees}
use Rattle.message.specs.Reading.{unless, agreed, settled, judged, known, shaped, on_json, on_utf8, reading, reporting}
use Rattle.message.specs.Shape.{tag_of, object_of}
use Rattle.message.specs.declared.refusals.Refusal.TheVariants.{Length, Utf8, Json, Deep, Shape, Twice, Missing, Rule, Disagree, Many}
use Rattle.message.specs.declared.refusals.Refusal.{Refusal}
use Rattle.message.specs.declared.facts.Message.{Message}
use Rattle.message.specs.Refusal.{Reading, number}
use Rattle.message.specs.declared.reading.Report.{Report}
use Rattle.octets.proofs.TestLaws.{picked}
use Rattle.rules.specs.Names.{fields}
use Rattle.rules.specs.Numbers.{tag_request, tag_response}
use Rattle.utf8.specs.Rfc3629.{verdict, Verdict}
use borrow.Author.Tests.{eqb-true, eqb-false, ltb-true}
use lib.Dec.{eqb, leb, ltb}
use lib.ListN.{get_or, length}
use mathlib.Core.Bool.{Bool, true, false, ◌&&◌, cond}
use mathlib.Core.List.{List}
use mathlib.Core.Path.{◌≡◌, refl, sym, ap, subst}
use native.Mathlib.Omega.{arith}
use Rattle.json_text.specs.declared.Fault.{Fault as JsonFault}
use Rattle.json_text.specs.declared.Fault.TheVariants as faults
use Rattle.std.specs.Prelude.{Result, Ok, Err}

-- the two runs of rows 8 and 9, and what the rules see on each: the run of the tag (true), and that of a request's method
pub data Run (s places : List ℕ) : Bool → Setting → Type 0 where
  tag : Run s places true (first_setting (tag_of s))
  method : tag_of s ≡ tag_request → Run s places false (setting_of s (tag_of s) places)

-- row 9 answers p: for the lowest field that breaks its rule on one of the two runs, at the place where its value breaks it
pub record Nine (s : List ℕ) (p : ℕ) : Type 0 where
  -- where the known fields stand
  pub places : List ℕ
  pub are : places ≡ noted fields s empty (members s (object_of s))
  -- the run, and what the rules see on it
  pub run : Bool
  pub setting : Setting
  pub on : Run s places run setting
  -- the field
  pub field : ℕ
  pub lowest : field ≡ broken s run setting places
  pub some : 1 ≤ field
  pub most : field ≤ 26
  pub breaking : breaks s run setting places field ≡ true
  pub place : p ≡ broken_place s setting places field

-- what an answer says of row 9: nothing, if it has another number or is what is read
data Says (s : List ℕ) : Reading → Type 0 where
  nine : {p : ℕ} → Nine s p → Says s (Err (Rule p))
  other : (e : Refusal) → eqb (number e) 9 ≡ false → Says s (Err e)
  read : {m : Message} → Says s (Ok m)

is-nine : {s : List ℕ} {r : Reading} {p : ℕ} → Says s r → r ≡ Err (Rule p) → Nine s p
is-nine {s} {r} {p} (nine {p = q} x) e = let z : q ≡ p = cc in subst (Nine s) z x
is-nine {s} {r} {p} (other e h) q = let z : e ≡ Rule p = cc in absurd (eqb-false (number e) 9 h (ap number z))
is-nine read e = absurd (let z : ◌≡◌ {A = ℕ} 0 1 = cc in omega arith)

-- Row by row, from the last to the first: the answer is another row's, or says all of `Nine`.

module _ (s t : List ℕ) (is : t ≡ noted fields s empty (members s (object_of s))) where
  on-run : {run : Bool} {k : Setting} → Run s t run k → {r : Reading} → Says s r → Says s (unless (checked s run k t) r)
  unfolding checked
  on-run {run} {k} x {r} o = by (ltb 0 (missing run k t)) (ltb 0 (broken s run k t)) refl
    where
      by : (a b : Bool) → ltb 0 (broken s run k t) ≡ b
          → Says s (unless (cond a (Err (Missing (missing run k t))) (cond b (Err (Rule (broken_place s k t (broken s run k t)))) (Ok tt))) r)
      by true b e = other (Missing (missing run k t)) refl
      by false true e =
          let l = lowest-within (breaks s run k t) 26 1 (ltb-true 0 (broken s run k t) e) in
          nine
          (record {
            places = t;
            are = is;
            run = run;
            setting = k;
            on = x;
            field = broken s run k t;
            lowest = refl;
            some = l.0;
            most = omega (arith, l.1.0);
            breaking = l.1.1;
            place = refl;
          })
      by false false e = o

  on-agreed : (k : Setting) → Says s (agreed s k t)
  unfolding agreed
  on-agreed k = picked (Says s) (disagrees s k t) (other Disagree refl) read

  on-settled : Says s (settled s (setting_of s (tag_of s) t) t)
  unfolding settled setting_of
  on-settled = by (eqb (tag_of s) tag_request) refl
    where
      by : (b : Bool) → eqb (tag_of s) tag_request ≡ b
          → Says s (cond b (unless (checked s false (setting_of s (tag_of s) t) t) (agreed s (setting_of s (tag_of s) t) t)) (agreed s (setting_of s (tag_of s) t) t))
      by true e = on-run (method (eqb-true (tag_of s) tag_request e)) (on-agreed (setting_of s (tag_of s) t))
      by false e = on-agreed (setting_of s (tag_of s) t)

  on-judged : Says s (judged s (tag_of s) t)
  unfolding judged
  on-judged = on-run tag (picked (Says s) (ltb tag_response (tag_of s)) read on-settled)

module _ (s : List ℕ) where
  on-shaped : Says s (shaped s)
  unfolding shaped known
  on-shaped =
      let qs = members s (object_of s) in
      picked (Says s) (eqb (tag_of s) 0) (other Shape refl)
      (picked (Says s) (ltb 0 (repeated fields s empty qs)) (other (Twice (repeated fields s empty qs)) refl) (on-judged s (noted fields s empty qs) refl))

  on-json : (g : Result ℕ JsonFault) → Says s (on_json s g).reading
  on-json (Ok n) = on-shaped
  on-json (Err (faults.Bad p)) = other (Json p) refl
  on-json (Err (faults.Deep p)) = other (Deep p) refl
  on-json (Err (faults.Many p)) = other (Many p) refl

  on-utf8 : (c : ℕ) (v : Verdict) → Says s (on_utf8 c s v).reading
  on-utf8 c (Ok _) = on-json (visited c s)
  on-utf8 c (Err p) = other (Utf8 p) refl

  on-reading : (c : ℕ) → Says s (reading c s)
  unfolding reading reporting
  on-reading c = picked (λ (r : Report). Says s r.reading) (leb 1 (length s) && leb (length s) 32768) (on-utf8 c (verdict s)) (other Length refl)

-- THEOREM: whoever is answered 9 is told the place of the lowest field that breaks its rule
pub nine-at : (c : ℕ) (s : List ℕ) (p : ℕ) → reading c s ≡ Err (Rule p) → Nine s p
nine-at c s p e = is-nine (on-reading s c) e

-- THEOREM: whenever a message is refused by 9 for a string in one of the fields 1 to 5, the place is that of its bad letter (02 §12)
pub nine-letter : {s : List ℕ} {p : ℕ} (n : Nine s p) → n.field ≤ 5 → is_string (bytes s (get_or n.places n.field 0)) ≡ true
    → AtBadLetter s n.places n.field p
nine-letter {s} n h is =
    subst (AtBadLetter s n.places n.field) (sym n.place) (bad-letter s n.run n.setting n.places n.field n.some h n.breaking is)
