-- Laws.
-- What reading a line comes to, case by case: the two refusals, quiet, or what the opened frame is decided to be; and quiet,
-- unfinished and each fault exactly when. `ReadExactlyWhen` has it of the call, by the number that it tells.
use Rattle.std.specs.Prelude.{ℕ, ◌+◌, ◌-◌, ◌≤◌, ◌<◌, ◌≡◌, Bool, cond, ◌↔◌, ltb}
use Rattle.std.proofs.Math.Path.{refl}
use Rattle.std.proofs.Common.{sym, ap, ◌∙◌, arith}
use Rattle.std.proofs.Math.Bool.{true, false}
use Rattle.std.proofs.Math.Dec.{leb}
use borrow.Author.Tests.{ltb-true, ltb-false, leb-false, lt-ltb, le-ltb, lt-leb}
use Rattle.laws.specs.Tests.{never}
use Rattle.frame.specs.Line.{Line, end_at, Found, nowhere, at, opening}
use Rattle.frame.specs.Standing.{stands}
use Rattle.frame.specs.Reading.{Outcome, good, quiet, unfinished, faulty, refused, decided, read_by, outcome_by, read_on}
use Rattle.frame.specs.FirstLaws.{first_at_law, at_first}
use Rattle.frame.proofs.FaultLaws.{fault_is}
use Rattle.frame.proofs.Decided.{Decision, is_unfinished, is_good, is_faulty, decision, faulty_exactly}
use Rattle.frame.specs.ReadStated.{IsFirst, Undecided, Opens, ReadCase, is_past, is_short, is_quiet, is_opened, goes_on, Silent, Unclosed, AtFault, ReadsFault}

module _ (limit : ℕ) (l : Line) (p lent : ℕ) where
  -- An opening that an interval follows opens a frame.
  pub opening_opens : (o : ℕ) → opening l p ≡ at o → o + 1 < l.count → Opens l p o
  unfolding opening
  opening_opens o e h =
      let f : IsFirst (end_at l) p (l.count - p) o = first_at_law (end_at l) p (l.count - p) o e in
      record { from = f.from; end = f.holds; none_before = f.none_earlier; followed = h }

  -- Every call comes to one of these.
  pub comes : ReadCase limit l p lent (read_on limit l p lent)
  unfolding read_on
  comes = outer (ltb l.count p) (ltb lent limit) refl refl
    where
      followed : (o : ℕ) → p ≤ l.count → limit ≤ lent → opening l p ≡ at o → (b : Bool) → leb l.count (o + 1) ≡ b
          → ReadCase limit l p lent (cond b (quiet p) (decided limit l o))
      followed o a c e true q = is_quiet a c
      followed o a c e false q = is_opened a c (opening_opens o e (leb-false l.count (o + 1) q))

      inner : (f : Found) → p ≤ l.count → limit ≤ lent → opening l p ≡ f → ReadCase limit l p lent (read_by f limit l p)
      inner nowhere a c e = is_quiet a c
      inner (at o) a c e = followed o a c e (leb l.count (o + 1)) refl

      outer : (b c : Bool) → ltb l.count p ≡ b → ltb lent limit ≡ c
          → ReadCase limit l p lent (outcome_by (cond b 31 (cond c 32 0)) (read_by (opening l p) limit l p))
      outer true c e d = is_past (ltb-true l.count p e)
      outer false true e d = is_short (ltb-false l.count p e) (ltb-true lent limit d)
      outer false false e d = inner (opening l p) (ltb-false l.count p e) (ltb-false lent limit d) refl

  -- A frame that opens is read as it is decided.
  pub opened_reading : (o : ℕ) → limit ≤ lent → Opens l p o → read_on limit l p lent ≡ decided limit l o
  unfolding read_on opening
  opened_reading o h op =
      let found : opening l p ≡ at o = at_first (end_at l) p (l.count - p) o (record {
        from = op.from;
        before = omega (arith, op.from, op.followed);
        holds = op.end;
        none_earlier = op.none_before;
      }) in
      rw (le-ltb l.count p (omega (arith, op.from, op.followed)), le-ltb lent limit h, found, lt-leb l.count (o + 1) op.followed)

  -- Past the recording: 31.
  pub reads_31 : l.count < p → read_on limit l p lent ≡ refused 31
  unfolding read_on
  reads_31 h = rw (lt-ltb l.count p h)

  -- Within it, with too few bytes lent: 32.
  pub reads_32 : p ≤ l.count → lent < limit → read_on limit l p lent ≡ refused 32
  unfolding read_on
  reads_32 h few = rw (le-ltb l.count p h, lt-ltb lent limit few)

  -- Within it, with enough of them: what is read.
  pub reads_by : p ≤ l.count → limit ≤ lent → read_on limit l p lent ≡ read_by (opening l p) limit l p
  unfolding read_on
  reads_by h enough = rw (le-ltb l.count p h, le-ltb lent limit enough)

-- What is known of a call that answers a frame or a fault: where the frame opens, and that it is decided so.
pub record OpenedBy (limit : ℕ) (l : Line) (p lent : ℕ) (x : Outcome) : Type 0 where
  pub enough : limit ≤ lent
  pub opening : ℕ
  pub opens : Opens l p opening
  pub is_decided : decided limit l opening ≡ x

-- All of that is known of a frame and of a fault.
pub opened_by : (limit : ℕ) (l : Line) (p lent : ℕ) (x : Outcome) → goes_on x ≡ true → read_on limit l p lent ≡ x → OpenedBy limit l p lent x
opened_by limit l p lent x g e = go (read_on limit l p lent) (comes limit l p lent) e
  where
    go : (y : Outcome) → ReadCase limit l p lent y → y ≡ x → OpenedBy limit l p lent x
    go y (is_past h) e = never (rw (← e) at g) refl
    go y (is_short h fits) e = never (rw (← e) at g) refl
    go y (is_quiet h fits) e = never (rw (← e) at g) refl
    go y (is_opened {o} h fits op) e = record { enough = fits; opening = o; opens = op; is_decided = e }

-- ## Quiet and unfinished

-- the row of an outcome, where it is one of these two
abbrev row : Outcome → ℕ
row (good f) = 0
row (quiet next) = 1
row (unfinished opening) = 2
row (faulty number next) = 0
row (refused number) = 0

-- the place that an unfinished frame opens at
abbrev opened : Outcome → ℕ
opened (good f) = 0
opened (quiet next) = 0
opened (unfinished opening) = opening
opened (faulty number next) = 0
opened (refused number) = 0

other_row : {A : Type 0} (x y : Outcome) → x ≡ y → ¬ (row x ≡ row y) → A
other_row x y e d = absurd (d (ap row e))

never_quiet : (limit : ℕ) (l : Line) (o p : ℕ) (y : Outcome) → Decision limit l o y → ¬ (y ≡ quiet p)
never_quiet limit l o p y (is_unfinished u) e = other_row y (quiet p) e (λ z. omega arith)
never_quiet limit l o p y (is_good k f h) e = other_row y (quiet p) e (λ z. omega arith)
never_quiet limit l o p y (is_faulty k f) e = other_row y (quiet p) e (λ z. omega arith)

-- Reading is quiet exactly when that is so.
pub quiet_exactly : (limit : ℕ) (l : Line) (p lent : ℕ) → (read_on limit l p lent ≡ quiet p) ↔ Silent limit l p lent
quiet_exactly limit l p lent = (there (read_on limit l p lent) (comes limit l p lent) refl, λ s. back s (read_on limit l p lent) (comes limit l p lent))
  where
    silent : p ≤ l.count → limit ≤ lent → read_on limit l p lent ≡ quiet p → Silent limit l p lent
    silent h fits e =
        record {
          inside = h;
          enough = fits;
          none_opens = λ o op. never_quiet limit l o p (decided limit l o) (decision limit l o) (sym (opened_reading limit l p lent o fits op) ∙ e);
        }

    there : (x : Outcome) → ReadCase limit l p lent x → read_on limit l p lent ≡ x → read_on limit l p lent ≡ quiet p → Silent limit l p lent
    there x (is_past h) q e = other_row x (quiet p) (sym q ∙ e) (λ z. omega arith)
    there x (is_short h fits) q e = other_row x (quiet p) (sym q ∙ e) (λ z. omega arith)
    there x (is_quiet h fits) q e = silent h fits e
    there x (is_opened h fits op) q e = silent h fits e

    back : Silent limit l p lent → (x : Outcome) → ReadCase limit l p lent x → x ≡ quiet p
    back s x (is_past h) = absurd (omega (arith, s.inside))
    back s x (is_short h fits) = absurd (omega (arith, s.enough))
    back s x (is_quiet h fits) = refl
    back s x (is_opened {o} h fits op) = absurd (s.none_opens o op)

-- Reading is unfinished, with the opening at o, exactly when that is so.
pub unfinished_exactly : (limit : ℕ) (l : Line) (p lent o : ℕ) → (read_on limit l p lent ≡ unfinished o) ↔ Unclosed limit l p lent o
unfinished_exactly limit l p lent o = (λ e. there (read_on limit l p lent) (comes limit l p lent) e, back)
  where
    unclosed : (o' : ℕ) → limit ≤ lent → Opens l p o' → (y : Outcome) → Decision limit l o' y → y ≡ unfinished o → Unclosed limit l p lent o
    unclosed o' fits op y (is_unfinished u) e =
        let same : o' ≡ o = ap opened e in
        rw (← same) (record { enough = fits; opens = op; none_decides = u })
    unclosed o' fits op y (is_good k f h) e = other_row y (unfinished o) e (λ z. omega arith)
    unclosed o' fits op y (is_faulty k f) e = other_row y (unfinished o) e (λ z. omega arith)

    there : (x : Outcome) → ReadCase limit l p lent x → x ≡ unfinished o → Unclosed limit l p lent o
    there x (is_past h) e = other_row x (unfinished o) e (λ z. omega arith)
    there x (is_short h fits) e = other_row x (unfinished o) e (λ z. omega arith)
    there x (is_quiet h fits) e = other_row x (unfinished o) e (λ z. omega arith)
    there x (is_opened {o = o'} h fits op) e = unclosed o' fits op (decided limit l o') (decision limit l o') e

    decided_so : Undecided limit l o l.count → (y : Outcome) → Decision limit l o y → y ≡ unfinished o
    decided_so u y (is_unfinished v) = refl
    decided_so u y (is_good {k} e f h) = never h (u.no_end k e.later e.inside)
    decided_so u y (is_faulty {k} e f) = absurd (omega (arith, u.no_fault k e.later e.inside))

    back : Unclosed limit l p lent o → read_on limit l p lent ≡ unfinished o
    back c = opened_reading limit l p lent o c.enough c.opens ∙ decided_so c.none_decides (decided limit l o) (decision limit l o)

-- ## The faults

-- The law of every fault at once: 11 to 20 are its instances.
pub fault_exactly : (limit : ℕ) (l : Line) (o n k : ℕ) → 0 < n → (decided limit l o ≡ faulty n k) ↔ AtFault limit l o n k
fault_exactly limit l o n k h =
    let law = faulty_exactly limit l o n k h in
    let meaning = fault_is limit (stands l o k) (l.shows k) n h in (
      λ e. record { earliest = (law.0 e).0; first_rule_law = meaning.0 (law.0 e).1 },
      λ a. law.1 (a.earliest, meaning.1 a.first_rule_law),
    )

-- The call answers fault n at k exactly when that is so.
pub reading_fault : (limit : ℕ) (l : Line) (p lent n k : ℕ) → 0 < n → (read_on limit l p lent ≡ faulty n k) ↔ ReadsFault limit l p lent n k
reading_fault limit l p lent n k h = (there, back)
  where
    there : read_on limit l p lent ≡ faulty n k → ReadsFault limit l p lent n k
    there e =
        let r : OpenedBy limit l p lent (faulty n k) = opened_by limit l p lent (faulty n k) refl e in
        record { enough = r.enough; opening = r.opening; opens = r.opens; at_fault = (fault_exactly limit l r.opening n k h).0 r.is_decided }

    back : ReadsFault limit l p lent n k → read_on limit l p lent ≡ faulty n k
    back f = opened_reading limit l p lent f.opening f.enough f.opens ∙ (fault_exactly limit l f.opening n k h).1 f.at_fault
