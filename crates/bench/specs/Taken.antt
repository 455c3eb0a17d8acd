-- Laws.
-- A call that is not turned away has passed every rule of document 01, and one that has passed them all is not turned away.
use Rattle.std.specs.Prelude.{ℕ, zero, suc, ◌+◌, ◌≤◌, ◌<◌, ◌≡◌, refl, ◌↔◌, ◌⊎◌, Bool, true, false, ◌||◌, List, [], eqb, ltb, length, get_or}
use Rattle.std.proofs.Common.{sym, ap, inl, inr, arith, eqb-true, eq-eqb, ltb-true, ltb-false, lt-ltb, le-ltb}
use Rattle.std.proofs.lemmas.Bool.{eqb-false}
use Rattle.laws.specs.Tests.{not_below, not_at_most}
use Rattle.laws.specs.Meant.{not_set, not_unset}
use Rattle.laws.specs.Rules.{first_rule, NoneHolds, without, apart}
use Rattle.laws.specs.RuleLaws.{none_is}
use Rattle.symbol.specs.declared.Clock.{Clock}
use Rattle.symbol.specs.Clocks.{good_of}
use Rattle.checkbyte.specs.Register.{with_check}
use Rattle.frame.specs.declared.Response.TheVariants.{Without}
use Rattle.frame.proofs.WidthLaws.{with_check_length}
use Rattle.frame.specs.Faults.{most_bytes}
use Rattle.frame.specs.Writing.{most_words}
use Rattle.frame.specs.Writing as writer
use Rattle.bench.specs.declared.Station.{Station}
use Rattle.bench.specs.Stations.{most_stations, most_stored, empty, blank}
use Rattle.bench.specs.Calls.{Call, load, withdraw, set_clock, round, row_size, all_sound, unsound_station, bad_message, all_empty, rules_on, rules_for, number_of, taken}
use Rattle.bench.specs.RoundStated.{RowPassed}

-- No rule has the number 0, which says that none holds ..
pub no_zero : (c : Call) (count : ℕ) (row : List Station) → without 0 (rules_on c count row) ≡ true
no_zero (load i m) count row = refl
no_zero (withdraw i) count row = refl
no_zero (set_clock i c) count row = refl
no_zero (round lent) count row = refl

-- .. and each has a number of its own.
pub rules_apart : (c : Call) (count : ℕ) (row : List Station) → apart (rules_on c count row) ≡ true
rules_apart (load i m) count row = refl
rules_apart (withdraw i) count row = refl
rules_apart (set_clock i c) count row = refl
rules_apart (round lent) count row = refl

-- A call is taken exactly when no rule turns it away.
pub taken_when : (c : Call) (row : List Station) → (taken c row ≡ true) ↔ NoneHolds (rules_for c row)
unfolding taken number_of
taken_when c row =
    let law = none_is (rules_for c row) (no_zero c (length row) row) in
    (λ e. law.0 (eqb-true (first_rule (rules_for c row)) 0 e), λ n. eq-eqb (first_rule (rules_for c row)) 0 (law.1 n))

-- a number that is not 0 is at least 1
pub positive : (n : ℕ) → eqb n 0 ≡ false → 1 ≤ n
positive zero e = absurd (eqb-false 0 0 e refl)
positive (suc n) e = omega arith

-- A number that is neither 0 nor above m is from 1 to m.
pub within : (n m : ℕ) → ¬ ((n ≡ 0) ⊎ (m < n)) → (1 ≤ n) × (n ≤ m)
within zero m h = absurd (h (inl refl))
within (suc n) m h = (omega arith, not_below m (suc n) (λ l. h (inr l)))

row_passed : (row : List Station) → ¬ (row_size (length row)).Holds → ¬ (unsound_station (all_sound row)).Holds → RowPassed row
row_passed row a b =
    let n = within (length row) most_stations a in
    record { some = n.0; few = n.1; sound = not_unset (all_sound row) b }

-- what a loading that is taken has passed
pub record LoadTaken (i : ℕ) (m : List ℕ) (row : List Station) : Type 0 where
  pub passed : RowPassed row
  pub there : i < length row
  pub some : 1 ≤ length m
  pub few : length m ≤ most_stored
  pub free : empty (get_or row i blank) ≡ true

-- It has passed all of that.
pub load_taken : (i : ℕ) (m : List ℕ) (row : List Station) → taken (load i m) row ≡ true → LoadTaken i m row
load_taken i m row e =
    let n = (taken_when (load i m) row).0 e in
    let b = within (length m) most_stored n.1.1.1.0 in
    record {
      passed = row_passed row n.0 n.1.0;
      there = not_at_most (length row) i n.1.1.0;
      some = b.0;
      few = b.1;
      free = not_unset (empty (get_or row i blank)) n.1.1.1.1.0;
    }

-- what a withdrawal that is taken has passed
pub record WithdrawTaken (i : ℕ) (row : List Station) : Type 0 where
  pub passed : RowPassed row
  pub there : i < length row
  pub full : empty (get_or row i blank) ≡ false

-- It has passed all of that.
pub withdraw_taken : (i : ℕ) (row : List Station) → taken (withdraw i) row ≡ true → WithdrawTaken i row
withdraw_taken i row e =
    let n = (taken_when (withdraw i) row).0 e in
    record { passed = row_passed row n.0 n.1.0; there = not_at_most (length row) i n.1.1.0; full = not_set (empty (get_or row i blank)) n.1.1.1.0 }

-- what the setting of a clock that is taken has passed
pub record ClockTaken (i : ℕ) (c : Clock) (row : List Station) : Type 0 where
  pub passed : RowPassed row
  pub there : i < length row
  pub good : good_of c ≡ true

-- It has passed all of that.
pub clock_taken : (i : ℕ) (c : Clock) (row : List Station) → taken (set_clock i c) row ≡ true → ClockTaken i c row
clock_taken i c row e =
    let n = (taken_when (set_clock i c) row).0 e in
    record { passed = row_passed row n.0 n.1.0; there = not_at_most (length row) i n.1.1.0; good = not_unset (good_of c) n.1.1.1.0 }

-- what a round that is taken has passed
pub record RoundTaken (lent : List ℕ) (row : List Station) : Type 0 where
  pub passed : RowPassed row
  pub words : most_words ≤ length lent
  pub somebody : all_empty row ≡ false

-- It has passed all of that.
pub round_taken : (lent : List ℕ) (row : List Station) → taken (round lent) row ≡ true → RoundTaken lent row
round_taken lent row e =
    let n = (taken_when (round lent) row).0 e in
    record { passed = row_passed row n.0 n.1.0; words = not_below (length lent) most_words n.1.1.0; somebody = not_set (all_empty row) n.1.1.1.0 }

-- 37 is one rule: the bench refuses the messages that the writer refuses without a response.
pub same_37 : (m : List ℕ) → (bad_message m).says ≡ writer.bad_message m Without []
unfolding writer.bad_message
same_37 m = ap (λ (t : Bool). eqb (length m) 0 || t) (over (length m) (length (with_check m) + 0) (omega (arith, with_check_length m)))
  where
    over : (n k : ℕ) → k ≡ n + 1 → ltb most_stored n ≡ ltb most_bytes k
    over n k e = go (ltb most_stored n) refl
      where
        go : (t : Bool) → ltb most_stored n ≡ t → t ≡ ltb most_bytes k
        go true h = sym (lt-ltb most_bytes k (omega (arith, ltb-true most_stored n h)))
        go false h = sym (le-ltb most_bytes k (omega (arith, ltb-false most_stored n h)))
