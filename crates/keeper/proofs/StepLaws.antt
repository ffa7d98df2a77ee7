-- The ways out of a step, each as a law over what its calls answered. Assumes nothing.
use Rattle.answers.specs.Answer.{Answer}
use Rattle.std.specs.Prelude.{Some, None}
use Prim.Native.Nat.{ℕ, ◌<◌}
use Rattle.call.proofs.Soundness.{decided-sound}
use Rattle.call.specs.Rule.{decided}
use Rattle.call.specs.inner.Sound.{Numbered, SoundAfter}
use Rattle.call.specs.declared.events.Event.TheVariants.{Tick}
use Rattle.call.specs.declared.events.Event.{Event}
use Rattle.call.specs.declared.records.Call.{Call}
use Rattle.call.specs.declared.records.Outcome.{Outcome}
use Rattle.keeper.proofs.FactLaws.{sound-call, numbered}
use Rattle.keeper.proofs.KeepingLaws.{kept-well, taken-well}
use Rattle.keeper.specs.Facts.{call_of, fields_from, event_of}
use Rattle.keeper.specs.inner.Known.{Fitting}
use Rattle.keeper.specs.Keeping.{Step, table_after, call_at, room_for, record_for, taken_at, taken, agrees_at, asked_at, ticked_at}
use Rattle.message.specs.inner.Named.{Named}
use Rattle.message.specs.Parties.{call_id_of, user_of, caller_fire_of, callee_fire_of}
use Rattle.message.specs.declared.facts.Message.{Message}
use Rattle.table.proofs.KeepLaws.{fields_of, named-used}
use Rattle.table.proofs.LookupLaws.{found}
use Rattle.table.specs.Image.{record_count, record_at, with_record}
use Rattle.table.specs.Record.{record_fields, new_record}
use Rattle.table.specs.Search.{place_named, free_place}
use Rattle.table.specs.WellFormed.{well_formed}
use Rattle.table.specs.declared.numbers.Fields.{Fields}
use mathlib.Core.Bool.{Bool, true, false}
use mathlib.Core.List.{List}
use mathlib.Core.Path.{◌≡◌, refl, sym, ap, ◌∙◌}

-- the record of a new call, with the texts of its message
pub opened : (t s : List ℕ) (m : Message) (c : Call) (k : ℕ) {id u x y t' : List ℕ} {f : Fields} → id ≡ call_id_of s m → u ≡ user_of s m → x ≡ caller_fire_of s m
    → y ≡ callee_fire_of s m → f ≡ fields_from c → t' ≡ with_record t k (new_record id u x y f) → t' ≡ with_record t k (record_for s m c)
unfolding record_for
opened t s m c k p q r v w z = rw (sym p, sym q, sym r, sym v, sym w) z

-- a new call takes record k
pub taken-found : (t s : List ℕ) (m : Message) (a : Answer) (c : Call) {t' : List ℕ} {k : ℕ} → free_place t ≡ Some k → t' ≡ with_record t k (record_for s m c)
    → (a ≡ (taken_at t s m a c (room_for t m)).answer) × (t' ≡ (taken_at t s m a c (room_for t m)).table)
taken-found t s m a c place z = rw place (refl, z)

-- an event on a call's record
module _ (t id : List ℕ) (now : ℕ) (e : Event) {t' : List ℕ} {k : ℕ} {f : Fields} {c : Call} {o : Outcome} (w : well_formed t ≡ true) (place : place_named id t ≡ Some k)
    (is_f : f ≡ record_fields (record_at t k)) (is_c : c ≡ call_of f) (fit : Fitting f) (is-o : o ≡ decided (Some c) e now)
    (is-t : t' ≡ table_after t k o.after) (n : Numbered e) (clock : now < 18446744073709551616) where
  inside : k < record_count t
  inside = (found id t k place).inside

  pub settled_is : o ≡ decided (Some (call_at t k)) e now
  settled_is = rw (sym is_f, sym is_c) is-o

  sound : SoundAfter (decided (Some (call_at t k)) e now).after
  sound =
      decided-sound (Some (call_at t k)) e now
      (sound-call (record_fields (record_at t k)) (fields_of t w k inside (named-used id (record_at t k) (found id t k place).passes)) (rw is_f at fit)) n clock

  pub settled-well : well_formed t' ≡ true
  settled-well =
      rw (is-t, settled_is) (kept-well t w k inside (named-used id (record_at t k) (found id t k place).passes) (decided (Some (call_at t k)) e now).after sound)

-- a request or a response on its call's record
pub asked-found : (t s : List ℕ) (m : Message) (now : ℕ) {t' : List ℕ} {k : ℕ} {agrees : Bool} {e : Event} {f : Fields} {c : Call} {o : Outcome} → well_formed t ≡ true
    → Named s m → place_named (call_id_of s m) t ≡ Some k → agrees ≡ agrees_at t s m k → f ≡ record_fields (record_at t k) → c ≡ call_of f → Fitting f → e ≡ event_of m agrees
    → o ≡ decided (Some c) e now → t' ≡ table_after t k o.after → now < 18446744073709551616
    → (o.answer ≡ (asked_at t now s m (place_named (call_id_of s m) t)).answer) × (t' ≡ (asked_at t now s m (place_named (call_id_of s m) t)).table)
    × (well_formed t' ≡ true)
asked-found t s m now {t'} {k} {agrees} {e} {f} {c} {o} w n place is-agrees is_f is_c fit is-e is-o is-t clock =
    let v : e ≡ event_of m (agrees_at t s m k) = rw (sym is-agrees) is-e in
    let h : Numbered e = rw is-e (numbered m agrees n.number-low n.number-high) in
    let i : o ≡ decided (Some (call_at t k)) (event_of m (agrees_at t s m k)) now = rw (sym v) (settled_is t (call_id_of s m) now e w place is_f is_c fit is-o is-t h clock) in
    let z : well_formed t' ≡ true = settled-well t (call_id_of s m) now e w place is_f is_c fit is-o is-t h clock in
    rw place (ap (λ (o : Outcome). o.answer) i, is-t ∙ ap (λ (o : Outcome). table_after t k o.after) i, z)

-- a request or a response that names no call on record
pub asked-new : (t s : List ℕ) (m : Message) (now : ℕ) {t' : List ℕ} {e : Event} {o : Outcome} {r : Answer} → well_formed t ≡ true
    → Named s m → place_named (call_id_of s m) t ≡ None → e ≡ event_of m false → o ≡ decided None e now
    → (r ≡ (taken t s m o.answer o.after).answer) × (t' ≡ (taken t s m o.answer o.after).table) → now < 18446744073709551616
    → (r ≡ (asked_at t now s m (place_named (call_id_of s m) t)).answer) × (t' ≡ (asked_at t now s m (place_named (call_id_of s m) t)).table)
    × (well_formed t' ≡ true)
asked-new t s m now {t'} {e} {o} {r} w n place is-e is-o is clock =
    let i : o ≡ decided None (event_of m false) now = rw (sym is-e) is-o in
    let f : Outcome → Step = λ (o : Outcome). taken t s m o.answer o.after in
    let z : well_formed (taken t s m o.answer o.after).table ≡ true = taken-well t w s m n place o.answer o.after
    (rw i (decided-sound None (event_of m false) now tt (numbered m false n.number-low n.number-high) clock)) in
    rw place (is.0 ∙ ap (λ (o : Outcome). (f o).answer) i, is.1 ∙ ap (λ (o : Outcome). (f o).table) i, rw is.1 z)

-- a tick on its call's record
pub ticked-found : (t id : List ℕ) (now : ℕ) {t' : List ℕ} {k : ℕ} {f : Fields} {c : Call} {o : Outcome} → well_formed t ≡ true
    → place_named id t ≡ Some k → f ≡ record_fields (record_at t k) → c ≡ call_of f → Fitting f
    → o ≡ decided (Some c) Tick now → t' ≡ table_after t k o.after → now < 18446744073709551616
    → (o.answer ≡ (ticked_at t now (place_named id t)).answer) × (t' ≡ (ticked_at t now (place_named id t)).table) × (well_formed t' ≡ true)
ticked-found t id now {t'} {k} {f} {c} {o} w place is_f is_c fit is-o is-t clock =
    let i : o ≡ decided (Some (call_at t k)) Tick now = settled_is t id now Tick w place is_f is_c fit is-o is-t tt clock in
    let z : well_formed t' ≡ true = settled-well t id now Tick w place is_f is_c fit is-o is-t tt clock in
    rw place (ap (λ (o : Outcome). o.answer) i, is-t ∙ ap (λ (o : Outcome). table_after t k o.after) i, z)
