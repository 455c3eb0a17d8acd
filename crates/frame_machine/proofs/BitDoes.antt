-- Laws.
-- A bit, in each standing: no SOF, the normalization bit, one bit more, or the first bit of a byte too many.
use Rattle.std.specs.Prelude.{ℕ, ◌+◌, ◌-◌, ◌*◌, ◌≤◌, ◌<◌, ◌≡◌, refl, Bool, true, false, cond, ◌⊎◌, List, [], ◌∷◌, ◌++◌, eqb, length}
use Rattle.std.proofs.Common.{sym, ap, ◌∙◌, inl, inr, append-nil, append_assoc, arith, eq-or-lt_of_le, length-append, le-leb, lt-ltb, le-ltb, eq-eqb, ne_eqb}
use Rattle.std.proofs.lemmas.Bool.{lt-leb}
use Rattle.checkbyte.specs.Register.{all_ones, register_from}
use Rattle.frame.specs.declared.Fault.TheVariants.{NoSof, ThirteenthByte}
use Rattle.frame.specs.Signs.{bit}
use Rattle.frame.specs.Bits.{value, bytes}
use Rattle.frame.proofs.BitLaws.{bytes_none, left_over_none, shifted_none, shifted_more, OneMore, is_left, is_whole, one_more, register_more}
use Rattle.frame.specs.ReadStated.{left_over, shifted_in}
use Rattle.frame.specs.Standing.{plain, checked, Standing, at_sof, in_main, at_normalization, in_response, moved}
use Rattle.frame.specs.Faults.{fault}
use Rattle.frame.proofs.FaultLaws.{bit_fault}
use Rattle.frame_machine.specs.declared.Phase.{Phase}
use Rattle.frame_machine.specs.declared.Phase.TheVariants.{Main, Plain, Checked}
use Rattle.frame_machine.specs.declared.Machine.{Machine}
use Rattle.frame_machine.specs.declared.Stepped.{Stepped}
use Rattle.frame_machine.specs.declared.Event.TheVariants.{Going, Byte}
use Rattle.frame_machine.specs.Steps.{faulty, push_of, bit_of}
use Rattle.frame_machine.specs.Holding.{so_far, holding_by, holding}
use Rattle.frame_machine.specs.HoldingLaws.{count_of}
use Rattle.frame_machine.specs.Does.{Does, faults, goes, stores}

-- ## One bit more of a byte

-- The bit leaves the byte open, or makes it whole and stores it.
data Pushed (all all' : List ℕ) (next : Machine) (r : Stepped) : Type 0 where
  leaves : r ≡ record { machine = next; event = Going } → all' ≡ all → Pushed all all' next r
  fills : (n : ℕ) → r ≡ record { machine = next; event = Byte n } → all' ≡ all ++ (n ∷ []) → Pushed all all' next r

one_longer : (bs : List ℕ) (n : ℕ) → length (bs ++ (n ∷ [])) ≡ length bs + 1
one_longer bs n = length-append bs (n ∷ [])

push_by : (limit : ℕ) (phase : Phase) (part : List Bool) (before all all' : List ℕ) (b : Bool) → length all < limit
    → (bytes (part ++ (b ∷ [])) ≡ bytes part → all' ≡ all)
    → ((n : ℕ) → bytes (part ++ (b ∷ [])) ≡ bytes part ++ (n ∷ []) → all' ≡ all ++ (n ∷ []))
    → Pushed all all' (holding_by phase (part ++ (b ∷ [])) before all') (push_of limit (holding_by phase part before all) b)
unfolding push_of
push_by limit phase part before all all' b h same more = go (one_more part b)
  where
    go : OneMore part b → Pushed all all' (holding_by phase (part ++ (b ∷ [])) before all') (push_of limit (holding_by phase part before all) b)
    go (is_left s e f) =
        leaves
        (rw (lt-leb limit (length all) h, lt-ltb (shifted_in 1 (left_over part) * 2 + value b) 256 s, same e, f, shifted_more 1 (left_over part) b, e))
        (same e)
    go (is_whole n s e f) =
        let off : 256 + n - 256 ≡ n = omega arith in
        fills n
        (rw (lt-leb limit (length all) h, s, le-ltb (256 + n) 256 (omega arith), off, more n e, one_longer all n, f, shifted_none 1, e, register_more all_ones (bytes part) n))
        (more n e)

-- A byte too many is at fault.
pub push_full : (limit : ℕ) (m : Machine) (b : Bool) → limit ≤ m.count → push_of limit m b ≡ faulty m ThirteenthByte
unfolding push_of
push_full limit m b h = rw (le-leb limit m.count h)

-- A bit at a place inside a part.
bit_part : (limit : ℕ) (st : Standing) (b : Bool) → fault limit st (bit b) ≡ cond (eqb (length (so_far st)) limit) 20 0 → length (so_far st) ≤ limit
    → (length (so_far st) < limit → Pushed (so_far st) (so_far (moved st (bit b))) (holding (moved st (bit b))) (push_of limit (holding st) b))
    → Does limit st (bit b) (push_of limit (holding st) b)
bit_part limit st b row few more = go (eq-or-lt_of_le few)
  where
    on : fault limit st (bit b) ≡ 0 → length (so_far st) < limit → Pushed (so_far st) (so_far (moved st (bit b))) (holding (moved st (bit b))) (push_of limit (holding st) b)
        → Does limit st (bit b) (push_of limit (holding st) b)
    on f h (leaves r a) = goes f refl r a
    on f h (fills n r a) = stores n f refl r h a

    go : (length (so_far st) ≡ limit) ⊎ (length (so_far st) < limit) → Does limit st (bit b) (push_of limit (holding st) b)
    go (inl h) = faults ThirteenthByte (row ∙ rw (eq-eqb (length (so_far st)) limit h)) (push_full limit (holding st) b (omega (arith, count_of st)))
    go (inr h) = on (row ∙ rw (ne_eqb (length (so_far st)) limit (λ x. omega arith))) h (more h)

-- ## In each part

-- the bytes of the main part alone, with no response after them
alone : (bs : List ℕ) → bs ++ bytes [] ≡ bs
alone bs = rw bytes_none (append-nil bs)

in_main_law : (limit : ℕ) (m : List Bool) (b : Bool) → length (so_far (in_main m)) < limit
    → Pushed (so_far (in_main m)) (so_far (in_main (m ++ (b ∷ [])))) (holding (in_main (m ++ (b ∷ [])))) (push_of limit (holding (in_main m)) b)
unfolding holding
in_main_law limit m b h =
    push_by limit Main m [] (bytes m ++ bytes []) (bytes (m ++ (b ∷ [])) ++ bytes []) b h (λ e. rw e)
    (λ n e. alone (bytes (m ++ (b ∷ []))) ∙ e ∙ ap (λ (bs : List ℕ). bs ++ (n ∷ [])) (sym (alone (bytes m))))

in_response_law : (limit : ℕ) (phase : Phase) (m r : List Bool) (b : Bool) → length (bytes m ++ bytes r) < limit
    → Pushed (bytes m ++ bytes r) (bytes m ++ bytes (r ++ (b ∷ []))) (holding_by phase (r ++ (b ∷ [])) (bytes m) (bytes m ++ bytes (r ++ (b ∷ []))))
    (push_of limit (holding_by phase r (bytes m) (bytes m ++ bytes r)) b)
in_response_law limit phase m r b h =
    push_by limit phase r (bytes m) (bytes m ++ bytes r) (bytes m ++ bytes (r ++ (b ∷ []))) b h (λ e. rw e)
    (λ n e. rw e (sym (append_assoc (bytes m) (bytes r) (n ∷ []))))

-- ## Each standing

-- A bit, from every standing.
pub bit_does : (limit : ℕ) (st : Standing) (one : Bool) → length (so_far st) ≤ limit → Does limit st (bit one) (bit_of limit (holding st) one)
unfolding bit_of holding register_from
bit_does limit at_sof one h = faults NoSof (bit_fault limit at_sof one) refl
bit_does limit (in_main m) one h = bit_part limit (in_main m) one (bit_fault limit (in_main m) one) h (in_main_law limit m one)
bit_does limit (at_normalization m) true h = goes (bit_fault limit (at_normalization m) true) refl (rw (left_over_none, bytes_none, append-nil (bytes m))) refl
bit_does limit (at_normalization m) false h = goes (bit_fault limit (at_normalization m) false) refl (rw (left_over_none, bytes_none, append-nil (bytes m))) refl
bit_does limit (in_response plain m r) one h = bit_part limit (in_response plain m r) one (bit_fault limit (in_response plain m r) one) h (in_response_law limit Plain m r one)
bit_does limit (in_response checked m r) one h = bit_part limit (in_response checked m r) one (bit_fault limit (in_response checked m r) one) h (in_response_law limit Checked m r one)
