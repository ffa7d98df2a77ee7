-- Inner: a table of records, a rule for one call, what an event does to the table, and the statement of the exchange, for any of each. Tied to the
-- keeper's contracts and to `exchange`'s Sequence by `agrees` and `look_is` in exchange's `proofs/Agreement.antt`: with `ours` put in for the
-- parameters, answers, tables and records are the keeper's. Assumes nothing.
use Rattle.std.specs.Prelude.{ℕ, ◌<◌, ltb, length, Bool, true, false, cond, List, [], ◌∷◌, ◌++◌, ◌≡◌, Option, Some, None}
use Rattle.lifting.specs.inner.First.{first, count}

-- What a table, its records, the events and the rule of one call are.
--   names e: the call that the event e names, if it names one; mute e: the answer to an event that names none;
--   rule e m: the answer to e, and the call's record after it, where m is the record before it (none: there is none);
--   admits t e: whether the table takes a new call, and turned e the answer where it does not;
--   Fit, Frame: what every record meets, and the table's own frame (its header and length).
pub record Keeper : Type 1 where
  pub Tab : Type 0
  pub Rec : Type 0
  pub Id : Type 0
  pub Ev : Type 0
  pub Ans : Type 0
  pub size : Tab → ℕ
  pub at : Tab → ℕ → Rec
  pub put : Tab → ℕ → Rec → Tab
  pub free : Rec → Bool
  pub named : Id → Rec → Bool
  pub blank : Rec
  pub names : Ev → Option Id
  pub mute : Ev → Ans
  pub rule : Ev → Option Rec → Ans × Option Rec
  pub admits : Tab → Ev → Bool
  pub turned : Ev → Ans
  pub Fit : Rec → Type 0
  pub Frame : Tab → Type 0

module _ (K : Keeper) where
  open K use {Tab, Rec, Id, Ev, Ans, size, at, put, free, named, blank, names, mute, rule, admits, turned, Fit, Frame}

  abbrev pub is_at : Id → Tab → ℕ → Bool
  is_at i t k = named i (at t k)

  -- the place of a call's record, and the lowest free place: the table's size where there is none
  abbrev pub place : Id → Tab → ℕ
  place i t = first (is_at i t) (size t)

  abbrev pub hole : Tab → ℕ
  hole t = first (λ k. free (at t k)) (size t)

  -- how many records pass a test
  abbrev pub tally : (Rec → Bool) → Tab → ℕ
  tally p t = count (λ k. p (at t k)) (size t)

  -- a call's record, looked up by its name
  abbrev pub look : Id → Tab → Option Rec
  look i t = cond (ltb (place i t) (size t)) (Some (at t (place i t))) None

  -- the answer, by the record before and after, and whether a new call is taken
  abbrev pub reply : Option Rec → Option Rec → Bool → Ans → Ans → Ans
  reply (Some r) m b a f = a
  reply None None b a f = a
  reply None (Some x) true a f = a
  reply None (Some x) false a f = f

  -- the table after: i is the record's place, h the lowest free one
  abbrev pub store : Tab → ℕ → ℕ → Option Rec → Option Rec → Bool → Tab
  store t i h (Some r) (Some x) b = put t i x
  store t i h (Some r) None b = put t i blank
  store t i h None None b = t
  store t i h None (Some x) true = put t h x
  store t i h None (Some x) false = t

  -- an event that names the call i
  unfoldable pub answer_to : Tab → Ev → Id → Ans
  answer_to t e i = reply (look i t) (rule e (look i t)).1 (admits t e) (rule e (look i t)).0 (turned e)

  unfoldable pub next_to : Tab → Ev → Id → Tab
  next_to t e i = store t (place i t) (hole t) (look i t) (rule e (look i t)).1 (admits t e)

  abbrev pub answer_of : Tab → Ev → Option Id → Ans
  answer_of t e None = mute e
  answer_of t e (Some i) = answer_to t e i

  abbrev pub next_of : Tab → Ev → Option Id → Tab
  next_of t e None = t
  next_of t e (Some i) = next_to t e i

  -- the answer to an event, and the table after it
  unfoldable pub answer : Tab → Ev → Ans
  answer t e = answer_of t e (names e)

  unfoldable pub next : Tab → Ev → Tab
  next t e = next_of t e (names e)

  unfoldable pub after_all : Tab → List Ev → Tab
  after_all t [] = t
  after_all t (e ∷ es) = after_all (next t e) es

  unfoldable pub answers : Tab → List Ev → List Ans
  answers t [] = []
  answers t (e ∷ es) = answer t e ∷ answers (next t e) es

  -- e would open a new call, and the table does not take it
  pub record Away (t : Tab) (e : Ev) : Type 0 where
    pub call : Id
    pub by_name : names e ≡ Some call
    pub unheld : look call t ≡ None
    pub opened : Rec
    pub opens : (rule e None).1 ≡ Some opened
    pub full : admits t e ≡ false

  -- neither order turns one of the two away
  pub record Roomy (t : Tab) (a b : Ev) : Type 0 where
    pub first-a : Away t a → ⊥
    pub then-b : Away (next t a) b → ⊥
    pub first-b : Away t b → ⊥
    pub then-a : Away (next t b) a → ⊥

  -- a and b do not name the same call
  abbrev pub Apart : Ev → Ev → Type 0
  Apart a b = (i : Id) → names a ≡ Some i → names b ≡ Some i → ⊥

  -- what the exchange of a and b, after xs and before ys, leaves: every answer, and each call's final record
  pub record Exchanged (t : Tab) (xs : List Ev) (a b : Ev) (ys : List Ev) : Type 0 where
    pub before : List Ans
    pub to-a : Ans
    pub to-b : Ans
    pub behind : List Ans
    pub answers_ab : answers t (xs ++ a ∷ b ∷ ys) ≡ before ++ to-a ∷ to-b ∷ behind
    pub answers_ba : answers t (xs ++ b ∷ a ∷ ys) ≡ before ++ to-b ∷ to-a ∷ behind
    pub as_many : length before ≡ length xs
    pub records : (i : Id) → look i (after_all t (xs ++ a ∷ b ∷ ys)) ≡ look i (after_all t (xs ++ b ∷ a ∷ ys))

  -- a well-formed table: its frame, each record, and no name in two records
  pub record Good (t : Tab) : Type 0 where
    pub frame : Frame t
    pub fit : (k : ℕ) → k < size t → Fit (at t k)
    pub one : (i : Id) (k l : ℕ) → k < size t → l < size t → is_at i t k ≡ true → is_at i t l ≡ true → k ≡ l

  -- two tables that hold the same calls: each call's record is the same, and so is how many records pass any test
  pub record Alike (t u : Tab) : Type 0 where
    pub looks : (i : Id) → look i t ≡ look i u
    pub tallies : (p : Rec → Bool) → tally p t ≡ tally p u

  -- what the parts must meet
  pub record Laws : Type 0 where
    pub same_id : Discrete Id
    pub put-frame : (t : Tab) (k : ℕ) (x : Rec) → Frame t → k < size t → Fit x → Frame (put t k x)
    pub size-put : (t : Tab) (k : ℕ) (x : Rec) → Frame t → k < size t → Fit x → size (put t k x) ≡ size t
    pub put_same : (t : Tab) (k : ℕ) (x : Rec) → Frame t → k < size t → Fit x → at (put t k x) k ≡ x
    pub put_other : (t : Tab) (k l : ℕ) (x : Rec) → Frame t → k < size t → l < size t → (l ≡ k → ⊥) → Fit x → at (put t k x) l ≡ at t l
    pub blank-fit : Fit blank
    pub blank-free : free blank ≡ true
    -- a free record is the blank one, and is nobody's
    pub free-blank : (r : Rec) → Fit r → free r ≡ true → r ≡ blank
    pub free_nameless : (i : Id) (r : Rec) → free r ≡ true → named i r ≡ false
    pub one_name : (i j : Id) (r : Rec) → named i r ≡ true → named j r ≡ true → i ≡ j
    -- the rule gives a record of the same call, from none or from a record of that call
    pub new-own : (e : Ev) (i : Id) (x : Rec) → names e ≡ Some i → (rule e None).1 ≡ Some x → Fit x × (named i x ≡ true)
    pub keep-own : (e : Ev) (i : Id) (r x : Rec) → names e ≡ Some i → Fit r → named i r ≡ true → (rule e (Some r)).1 ≡ Some x → Fit x × (named i x ≡ true)
    -- a new call is taken only where a record is free, and tables that hold the same calls take the same
    pub admits-room : (t : Tab) (e : Ev) → admits t e ≡ true → hole t < size t
    pub admits-alike : (t u : Tab) (e : Ev) → Good t → Good u → Alike t u → admits t e ≡ admits u e
