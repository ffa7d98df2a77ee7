-- What it means that the reading accepts a request or a response, row by row (01 Reading), and back: who shows all of it shows that a text is read.
-- Assumes nothing.
use Rattle.octets.proofs.TestLaws.{and_parts}
use Prim.Native.Nat.{ℕ, ◌≤◌, ◌<◌}
use Rattle.json_text.specs.inner.Machine.{answer}
use Rattle.json_text.specs.Places.{bytes, members}
use Rattle.json_text.proofs.VerdictLaws.{text-ends, ends-within}
use Rattle.json_text.specs.inner.Tour.{visited}
use Rattle.message.proofs.CheckLaws.{lowest-none, none-lowest}
use Rattle.message.proofs.ReadingLaws.{in_bounds}
use Rattle.message.proofs.ShapeLaws.{tag-few}
use Rattle.message.specs.Checks.{asks, lacks, breaks, missing, broken, broken_place, checked}
use Rattle.fields.specs.Field.{keeps}
use Rattle.fields.specs.Known.{empty, noted, repeated}
use Rattle.message.specs.Message.{first_setting, setting_of, disagrees, message_of, probe_of}
use Rattle.message.specs.Reading.{unless, agreed, ample, settled, judged, known, shaped, on_json, on_utf8, reading, reporting, uncounted}
use Rattle.message.specs.Shape.{tag_of, object_of}
use Rattle.message.specs.declared.refusals.Refusal.TheVariants.{Length, Shape, Twice, Missing, Rule, Disagree}
use Rattle.message.specs.declared.refusals.Refusal.{Refusal}
use Rattle.message.specs.Checks.{Check}
use Rattle.message.specs.declared.facts.Message.{Message}
use Rattle.fields.specs.declared.judging.Setting.{Setting}
use Rattle.message.specs.Refusal.{Reading}
use Rattle.message.specs.declared.reading.Report.{Report}
use Rattle.rules.specs.Names.{fields}
use Rattle.utf8.specs.Rfc3629.{verdict, Verdict}
use borrow.Author.Tests.{eq-eqb, ne_eqb, lt-ltb, le-ltb, leb-true, ltb-true, ltb-false, eqb-true, eqb-false}
use lib.Dec.{eqb, leb, ltb}
use lib.ListN.{length, get_or}
use mathlib.Core.Bool.{Bool, true, false, not, ◌&&◌, cond}
use mathlib.Core.List.{List}
use mathlib.Core.Path.{◌≡◌, refl, sym, ap, ◌∙◌}
use native.Mathlib.Omega.{arith}
use Rattle.json_text.specs.declared.Fault.{Fault as JsonFault}
use Rattle.json_text.specs.declared.Fault.TheVariants as faults
use Rattle.std.specs.Prelude.{Result, Ok, Err}

-- s is accepted with this tag, 1 or 2, and these places of its fields
pub record Accepted (s : List ℕ) (tag : ℕ) (t : List ℕ) : Type 0 where
  pub some : 1 ≤ length s
  pub short : length s ≤ 32768
  pub utf : verdict s ≡ Ok tt
  pub end : ℕ
  pub json : answer s ≡ Ok end
  pub tagged : tag_of s ≡ tag
  pub kind : (1 ≤ tag) × (tag ≤ 2)
  pub once : repeated fields s empty (members s (object_of s)) ≡ 0
  pub places : noted fields s empty (members s (object_of s)) ≡ t
  pub fits : checked s true (first_setting tag) t ≡ Ok tt
  pub more : tag ≡ 1 → checked s false (setting_of s tag t) t ≡ Ok tt
  pub agrees : disagrees s (setting_of s tag t) t ≡ false

-- back
module _ {s : List ℕ} {tag : ℕ} {t : List ℕ} (a : Accepted s tag t) where
  agreed-is : agreed s (setting_of s tag t) t ≡ Ok (message_of s (setting_of s tag t) t)
  unfolding agreed
  agreed-is = rw a.agrees

  settled-by : (x : ℕ) (e : tag ≡ x) (u : Bool) → eqb tag 1 ≡ u → settled s (setting_of s tag t) t ≡ Ok (message_of s (setting_of s tag t) t)
  unfolding settled setting_of
  settled-by x e true h = rw (h, a.more (eqb-true tag 1 h)) agreed-is
  settled-by x e false h = rw h agreed-is

  judged-is : judged s tag t ≡ Ok (message_of s (setting_of s tag t) t)
  unfolding judged
  judged-is = rw (a.fits, le-ltb 2 tag a.kind.1) (settled-by tag refl (eqb tag 1) refl)

  shaped-is : shaped s ≡ Ok (message_of s (setting_of s tag t) t)
  unfolding shaped known
  shaped-is = rw (a.tagged, ne_eqb tag 0 (λ e. omega (arith, a.kind.0)), a.once, a.places) judged-is

  -- under a ceiling that no JSON text passes
  pub accepted-read : reading ample s ≡ Ok (message_of s (setting_of s tag t) t)
  unfolding reading
  accepted-read =
      ap (λ (r : Report). r.reading)
      (in_bounds ample s (λ e. omega (arith, a.some)) a.short ∙ ap (on_utf8 ample s) a.utf ∙ ap (on_json s) (ends-within ample s a.json (omega (arith, a.short))).1)
      ∙ shaped-is

-- forth
read-not : {A : Type 0} {e : Refusal} {m : Message} → ◌≡◌ {A = Reading} (Err e) (Ok m) → A
read-not q = absurd (let z : ◌≡◌ {A = ℕ} 0 1 = cc in omega arith)

by-refuse : (b : Bool) (x : Reading) (e : Refusal) (m : Message) → cond b (Err e) x ≡ Ok m → (b ≡ false) × (x ≡ Ok m)
by-refuse true x e m q = read-not q
by-refuse false x e m q = (refl, q)

by-unless : (c : Check) (x : Reading) (m : Message) → unless c x ≡ Ok m → (c ≡ Ok tt) × (x ≡ Ok m)
by-unless (Ok tt) x m e = (refl, e)
by-unless (Err r) x m e = read-not e

by_length : (b : Bool) (x : Report) (m : Message) → (cond b x (uncounted Length)).reading ≡ Ok m → (b ≡ true) × (x.reading ≡ Ok m)
by_length true x m e = (refl, e)
by_length false x m e = read-not e

by-utf : (c : ℕ) (s : List ℕ) (v : Verdict) (m : Message) → (on_utf8 c s v).reading ≡ Ok m → (v ≡ Ok tt) × ((on_json s (visited c s)).reading ≡ Ok m)
by-utf c s (Ok _) m e = (refl, e)
by-utf c s (Err p) m e = read-not e

by-json : (s : List ℕ) (w : Result ℕ JsonFault) (m : Message) → (on_json s w).reading ≡ Ok m → (n : ℕ) × ((w ≡ Ok n) × (shaped s ≡ Ok m))
by-json s (Ok n) m h = (n, (refl, h))
by-json s (Err (faults.Bad p)) m h = read-not h
by-json s (Err (faults.Deep p)) m h = read-not h
by-json s (Err (faults.Many p)) m h = read-not h

pub same-message : {a b : Message} → ◌≡◌ {A = Reading} (Ok a) (Ok b) → a ≡ b
same-message e = cc

-- from row 8 on
pub record Judged (s : List ℕ) (tag : ℕ) (t : List ℕ) (m : Message) : Type 0 where
  pub low : tag ≤ 2
  pub fits : checked s true (first_setting tag) t ≡ Ok tt
  pub more : tag ≡ 1 → checked s false (setting_of s tag t) t ≡ Ok tt
  pub agrees : disagrees s (setting_of s tag t) t ≡ false
  pub is : message_of s (setting_of s tag t) t ≡ m

record Settled (s : List ℕ) (tag : ℕ) (t : List ℕ) (m : Message) : Type 0 where
  more : tag ≡ 1 → checked s false (setting_of s tag t) t ≡ Ok tt
  agrees : disagrees s (setting_of s tag t) t ≡ false
  is : message_of s (setting_of s tag t) t ≡ m

by-agreed : (s : List ℕ) (k : Setting) (t : List ℕ) (m : Message) → agreed s k t ≡ Ok m → (disagrees s k t ≡ false) × (message_of s k t ≡ m)
unfolding agreed
by-agreed s k t m e = let r = by-refuse (disagrees s k t) (Ok (message_of s k t)) Disagree m e in (r.0, same-message r.1)

by-settled : (s : List ℕ) (tag : ℕ) (t : List ℕ) (m : Message) (u : Bool) → eqb tag 1 ≡ u
    → cond u (unless (checked s false (setting_of s tag t) t) (agreed s (setting_of s tag t) t)) (agreed s (setting_of s tag t) t) ≡ Ok m → Settled s tag t m
by-settled s tag t m true h e =
    let r = by-unless (checked s false (setting_of s tag t) t) (agreed s (setting_of s tag t) t) m e in
    let q = by-agreed s (setting_of s tag t) t m r.1 in
    record { more = λ z. r.0; agrees = q.0; is = q.1 }
by-settled s tag t m false h e =
    let q = by-agreed s (setting_of s tag t) t m e in
    record { more = λ z. absurd (eqb-false tag 1 h z); agrees = q.0; is = q.1 }

settled_as : (s : List ℕ) (tag : ℕ) (t : List ℕ) (m : Message) → settled s (setting_of s tag t) t ≡ Ok m → Settled s tag t m
unfolding settled setting_of
settled_as s tag t m e = by-settled s tag t m (eqb tag 1) refl e

probe_tag : (tag : ℕ) (m : Message) → ◌≡◌ {A = Reading} (Ok (probe_of tag)) (Ok m) → m.tag ≡ tag
unfolding probe_of
probe_tag tag m e = sym (ap (λ (x : Message). x.tag) (same-message e))

by_probe : (s : List ℕ) (tag : ℕ) (t : List ℕ) (m : Message) (u : Bool) → m.tag ≤ 2 → ltb 2 tag ≡ u → cond u (Ok (probe_of tag)) (settled s (setting_of s tag t) t) ≡ Ok m
    → (tag ≤ 2) × Settled s tag t m
by_probe s tag t m true l h e = absurd (omega (arith, probe_tag tag m e, ltb-true 2 tag h))
by_probe s tag t m false l h e = (ltb-false 2 tag h, settled_as s tag t m e)

judged_as : (s : List ℕ) (tag : ℕ) (t : List ℕ) (m : Message) → m.tag ≤ 2 → judged s tag t ≡ Ok m → Judged s tag t m
unfolding judged
judged_as s tag t m l e =
    let r = by-unless (checked s true (first_setting tag) t) (cond (ltb 2 tag) (Ok (probe_of tag)) (settled s (setting_of s tag t) t)) m e in
    let q = by_probe s tag t m (ltb 2 tag) l refl r.1 in
    record { low = q.0; fits = r.0; more = q.1.more; agrees = q.1.agrees; is = q.1.is }

-- a request or a response that is read is accepted row by row
pub record Taken (s : List ℕ) (m : Message) : Type 0 where
  pub t : List ℕ
  pub accepted : Accepted s m.tag t
  pub is : message_of s (setting_of s m.tag t) t ≡ m

message-tag : (s : List ℕ) (tag : ℕ) (t : List ℕ) (m : Message) → message_of s (setting_of s tag t) t ≡ m → tag ≡ m.tag
unfolding message_of setting_of
message-tag s tag t m e = ap (λ (x : Message). x.tag) e

judged-tag : (s : List ℕ) (tag : ℕ) (t : List ℕ) (m : Message) → judged s tag t ≡ Ok m → m.tag ≡ tag
unfolding judged
judged-tag s tag t m e = by (ltb 2 tag) (by-unless (checked s true (first_setting tag) t) _ m e).1
  where
    by : (u : Bool) → cond u (Ok (probe_of tag)) (settled s (setting_of s tag t) t) ≡ Ok m → m.tag ≡ tag
    by true z = probe_tag tag m z
    by false z = sym (message-tag s tag t m (settled_as s tag t m z).is)

record Shown (s : List ℕ) (m : Message) : Type 0 where
  shape : tag_of s ≡ 0 → ⊥
  once : repeated fields s empty (members s (object_of s)) ≡ 0
  rows : judged s (tag_of s) (noted fields s empty (members s (object_of s))) ≡ Ok m

shown_as : (s : List ℕ) (m : Message) → shaped s ≡ Ok m → Shown s m
unfolding shaped known
shown_as s m e =
    let r = by-refuse (eqb (tag_of s) 0) _ Shape m e in
    let q = by-refuse (ltb 0 (repeated fields s empty (members s (object_of s)))) _ (Twice _) m r.1 in
    let z : repeated fields s empty (members s (object_of s)) ≡ 0 = omega (arith, ltb-false 0 (repeated fields s empty (members s (object_of s))) q.0) in
    record { shape = eqb-false (tag_of s) 0 r.0; once = z; rows = q.1 }

record Gone (s : List ℕ) (m : Message) : Type 0 where
  some : 1 ≤ length s
  short : length s ≤ 32768
  utf : verdict s ≡ Ok tt
  json : answer s ≡ Ok (length s)
  shown : shaped s ≡ Ok m

gone_as : (c : ℕ) (s : List ℕ) (m : Message) → reading c s ≡ Ok m → Gone s m
unfolding reading reporting
gone_as c s m e =
    let r = by_length (leb 1 (length s) && leb (length s) 32768) (on_utf8 c s (verdict s)) m e in
    let l = and_parts (leb 1 (length s)) (leb (length s) 32768) r.0 in
    let u = by-utf c s (verdict s) m r.1 in
    let j = by-json s (visited c s) m u.1 in
    record { some = leb-true 1 (length s) l.0; short = leb-true (length s) 32768 l.1; utf = u.0; json = text-ends c s j.1.0; shown = j.1.1 }

pub read_short : (c : ℕ) (s : List ℕ) (m : Message) → reading c s ≡ Ok m → length s ≤ 32768
read_short c s m e = (gone_as c s m e).short

-- a message that is read has a tag, and no known name twice
pub read-shaped : (c : ℕ) (s : List ℕ) (m : Message) → reading c s ≡ Ok m → (tag_of s ≡ 0 → ⊥) × (repeated fields s empty (members s (object_of s)) ≡ 0)
read-shaped c s m e = let w = shown_as s m (gone_as c s m e).shown in (w.shape, w.once)

-- the tag of any message that is read
pub read-tag : (c : ℕ) (s : List ℕ) (m : Message) → reading c s ≡ Ok m → (1 ≤ m.tag) × (m.tag ≤ 4)
read-tag c s m e =
    let w = shown_as s m (gone_as c s m e).shown in
    let q = judged-tag s (tag_of s) _ m w.rows in
    (omega (arith, q, w.shape), omega (arith, q, tag-few s))

pub read_taken : (c : ℕ) (s : List ℕ) (m : Message) → reading c s ≡ Ok m → m.tag ≤ 2 → Taken s m
read_taken c s m e l =
    let g = gone_as c s m e in
    let w = shown_as s m g.shown in
    let t = noted fields s empty (members s (object_of s)) in
    let j = judged_as s (tag_of s) t m l w.rows in
    let q = message-tag s (tag_of s) t m j.is in
    record {
      t = t;
      accepted = record {
        some = g.some;
        short = g.short;
        utf = g.utf;
        end = length s;
        json = g.json;
        tagged = q;
        kind = (omega (arith, w.shape, q), l);
        once = w.once;
        places = refl;
        fits = rw (← q) j.fits;
        more = rw (← q) j.more;
        agrees = rw (← q) j.agrees;
      };
      is = ap (λ (g : ℕ). message_of s (setting_of s g t) t) (sym q) ∙ j.is;
    }

-- Rows 8 and 9, field by field.
by_judge : (b : Bool) (r : Refusal) (x : Check) → cond b (Err r) x ≡ Ok tt → (b ≡ false) × (x ≡ Ok tt)
by_judge true r x e = absurd (let z : ◌≡◌ {A = ℕ} 0 1 = cc in omega arith)
by_judge false r x e = (refl, e)

-- no field is missing, and none breaks its rule
pub record Sound (s : List ℕ) (run : Bool) (k : Setting) (t : List ℕ) : Type 0 where
  pub there : (n : ℕ) → 1 ≤ n → n < 27 → lacks run k t n ≡ false
  pub kept : (n : ℕ) → 1 ≤ n → n < 27 → breaks s run k t n ≡ false

module _ (s : List ℕ) (run : Bool) (k : Setting) (t : List ℕ) where
  pub good-sound : checked s run k t ≡ Ok tt → Sound s run k t
  unfolding checked
  good-sound e =
      let r = by_judge (ltb 0 (missing run k t)) (Missing (missing run k t)) _ e in
      let q = by_judge (ltb 0 (broken s run k t)) (Rule (broken_place s k t (broken s run k t))) (Ok tt) r.1 in
      let x : missing run k t ≡ 0 = omega (arith, ltb-false 0 (missing run k t) r.0) in
      let y : broken s run k t ≡ 0 = omega (arith, ltb-false 0 (broken s run k t) q.0) in
      record { there = λ n l g. lowest-none (lacks run k t) 26 1 n (omega arith) x l g; kept = λ n l g. lowest-none (breaks s run k t) 26 1 n (omega arith) y l g }

  pub sound-good : Sound s run k t → checked s run k t ≡ Ok tt
  unfolding checked
  sound-good h =
      let x : missing run k t ≡ 0 = none-lowest (lacks run k t) 26 1 (λ n l g. h.there n l g) in
      let y : broken s run k t ≡ 0 = none-lowest (breaks s run k t) 26 1 (λ n l g. h.kept n l g) in
      rw (x, y)

-- a field that is asked for is there and keeps its rule
by-lacks : (a x : ℕ) → a ≡ 1 → (eqb a 1 && eqb x 0) ≡ false → 0 < x
by-lacks a x e h = by (eqb x 0) refl (rw (eq-eqb a 1 e) at h)
  where
    by : (u : Bool) → eqb x 0 ≡ u → u ≡ false → 0 < x
    by true z y = absurd (let w : ◌≡◌ {A = ℕ} 0 1 = cc in omega arith)
    by false z y = let q = eqb-false x 0 z in omega arith

by-breaks : (a x : ℕ) (b : Bool) → 0 < a → 0 < x → (ltb 0 a && (ltb 0 x && not b)) ≡ false → b ≡ true
by-breaks a x true h g e = refl
by-breaks a x false h g e = let z = rw (lt-ltb 0 a h, lt-ltb 0 x g) at e in sym z

module _ {s : List ℕ} {run : Bool} {k : Setting} {t : List ℕ} (h : Sound s run k t) (n : ℕ) (l : 1 ≤ n) (g : n < 27) where
  pub is-there : asks run k n ≡ 1 → 0 < get_or t n 0
  unfolding lacks
  is-there e = by-lacks (asks run k n) (get_or t n 0) e (h.there n l g)

  pub is-kept : 0 < asks run k n → 0 < get_or t n 0 → keeps k n (bytes s (get_or t n 0)) ≡ true
  unfolding breaks
  is-kept a b = by-breaks (asks run k n) (get_or t n 0) (keeps k n (bytes s (get_or t n 0))) a b (h.kept n l g)
