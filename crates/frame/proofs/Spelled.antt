-- Laws.
-- What a standing says of the places before it: as long as nothing decides, the symbols after the opening are those that the
-- standing spells, and what it holds is sound.
use Rattle.std.specs.Prelude.{ℕ, zero, suc, ◌+◌, ◌-◌, ◌≤◌, ◌<◌, ◌≡◌, refl, Bool, true, false, not, List, [], ◌∷◌, ◌++◌, eqb, length, get_or}
use Rattle.std.proofs.Common.{sym, ap, append-nil, append_assoc, arith, add-zero, length-append}
use Rattle.std.proofs.lemmas.Bool.{eqb-false}
use Rattle.laws.specs.Tests.{never}
use Rattle.symbol.specs.declared.Symbol.{Symbol}
use Rattle.symbol.specs.declared.Symbol.TheVariants.{Noise, Bit0, Bit1, Eod, Sof, Eof, Ifs, Break, Stuck}
use Rattle.symbol.specs.Classes.{Window, class_of}
use Rattle.symbol.specs.ClassLaws.{class_in}
use Rattle.symbol.specs.Sending.{bit_symbol}
use Rattle.frame.specs.Signs.{sof, bit, shut, is_end}
use Rattle.frame.specs.Bits.{bytes}
use Rattle.frame.specs.Line.{active_at, symbol_at, sign_of, single, end_at}
use Rattle.frame.specs.Standing.{Kind, plain, checked, Standing, at_sof, in_main, at_normalization, in_response, moved, stands}
use Rattle.frame.specs.Faults.{facts, main_bytes, response_bytes, fault}
use Rattle.frame.specs.Reading.{fault_at}
use Rattle.frame.proofs.BitLaws.{OneMore, is_left, is_whole, one_more}
use Rattle.frame.proofs.StandingLaws.{stands_sof, stands_next}
use Rattle.frame.specs.ReadStated.{Undecided}
use Rattle.frame.specs.Waves.{bit_symbols}
use Rattle.frame.specs.WaveLaws.{carry_append, level_turns, bit_shown}
use Rattle.frame.proofs.Parts.{shut_complete}
use Rattle.frame.proofs.FaultLaws.{no_fault_is}
use Rattle.frame.specs.WriteStated.{normalization, spelled, Sound, Reached}

-- ## One symbol further

-- one symbol more is spelled, and the standing stays sound
record Step (limit : ℕ) (active : Bool) (st : Standing) (s : Symbol) : Type 0 where
  spells : spelled (moved st (sign_of s)) ≡ spelled st ++ (s ∷ [])
  sound : Sound limit (not active) (moved st (sign_of s))

bits_snoc : (bits : List Bool) (b : Bool) → bit_symbols (bits ++ (b ∷ [])) ≡ bit_symbols bits ++ (bit_symbol b ∷ [])
bits_snoc [] b = refl
bits_snoc (x ∷ bits) b = ap (λ (l : List Symbol). bit_symbol x ∷ l) (bits_snoc bits b)

bytes_more : (bits : List Bool) (b : Bool) → length (bytes (bits ++ (b ∷ []))) ≤ length (bytes bits) + 1
bytes_more bits b = go (one_more bits b)
  where
    go : OneMore bits b → length (bytes (bits ++ (b ∷ []))) ≤ length (bytes bits) + 1
    go (is_left s e f) = rw e (omega arith)
    go (is_whole n s e f) = rw e (omega (arith, length-append (bytes bits) (n ∷ [])))

-- A bit that is at no fault finds space for its byte.
space : (limit : ℕ) (st : Standing) (b : Bool) → (facts st).sof_place ≡ false → (facts st).in_part ≡ true → fault limit st (bit b) ≡ 0
    → ¬ (length (main_bytes st ++ response_bytes st) ≡ limit)
unfolding fault
space limit st b p q f = eqb-false (length (main_bytes st ++ response_bytes st)) limit (go (eqb (length (main_bytes st ++ response_bytes st)) limit) refl)
  where
    go : (t : Bool) → eqb (length (main_bytes st ++ response_bytes st)) limit ≡ t → t ≡ false
    go true e = let z : ◌≡◌ {A = ℕ} 20 0 = rw (p, q, e) at f in absurd (omega arith)
    go false e = refl

response_space : (limit : ℕ) (k : Kind) (m r : List Bool) (b : Bool) → fault limit (in_response k m r) (bit b) ≡ 0 → ¬ (length (bytes m ++ bytes r) ≡ limit)
response_space limit plain m r b f = space limit (in_response plain m r) b refl refl f
response_space limit checked m r b f = space limit (in_response checked m r) b refl refl f

-- a bit goes into the part that it stands in, or says of which kind the response is
bit_step : (limit : ℕ) (active : Bool) (st : Standing) (b : Bool) → Sound limit active st → fault limit st (bit b) ≡ 0 → Step limit active st (bit_symbol b)
unfolding fault bytes
bit_step limit active at_sof b h f = absurd (omega (arith, f))
bit_step limit active (in_main m) b h f =
    let full : ¬ (length (bytes m ++ bytes []) ≡ limit) = space limit (in_main m) b refl refl f in
    record {
      spells = rw (bit_shown b) (ap (λ (l : List Symbol). Sof ∷ l) (bits_snoc m b));
      sound = rw (bit_shown b) (omega (arith, bytes_more m b, length-append (bytes m) (bytes [])));
    }
bit_step limit active (at_normalization m) true h f =
    record { spells = ap (λ (l : List Symbol). Sof ∷ l) (sym (append_assoc (bit_symbols m) (Eod ∷ []) (Bit1 ∷ []))); sound = (h.1.0, (h.1.1.0, omega (arith, h.1.1.1))) }
bit_step limit active (at_normalization m) false h f =
    record { spells = ap (λ (l : List Symbol). Sof ∷ l) (sym (append_assoc (bit_symbols m) (Eod ∷ []) (Bit0 ∷ []))); sound = (h.1.0, (h.1.1.0, omega (arith, h.1.1.1))) }
bit_step limit active (in_response k m r) b h f =
    let full : ¬ (length (bytes m ++ bytes r) ≡ limit) = response_space limit k m r b f in
    record {
      spells =
          rw (bit_shown b, bits_snoc r b)
          (ap (λ (l : List Symbol). Sof ∷ l) (sym (append_assoc (bit_symbols m) (Eod ∷ normalization k ∷ bit_symbols r) (bit_symbol b ∷ []))));
      sound = rw (bit_shown b) (h.0, (h.1.0, omega (arith, h.1.1, bytes_more r b, length-append (bytes m) (bytes r))));
    }

-- an EOD closes a complete main part, and stands nowhere else
eod_step : (limit : ℕ) (active : Bool) (st : Standing) → Sound limit active st → fault limit st (shut true) ≡ 0 → active ≡ false → Step limit active st Eod
eod_step limit active at_sof h f p = never h p
eod_step limit active (in_main m) h f p =
    let done = shut_complete limit (in_main m) (shut true) refl f in
    record {
      spells = rw (append-nil m);
      sound = rw (append-nil m) (ap not p, (rw (append-nil m) at done.0, (rw (append-nil m) at done.1, h)));
    }
eod_step limit active (at_normalization m) h f p = never h.0 p
eod_step limit active (in_response plain m r) h f p = absurd (((no_fault_is limit (in_response plain m r) (shut true)).0 f).1.1.1.1.1.1.0 (refl, refl))
eod_step limit active (in_response checked m r) h f p = absurd (((no_fault_is limit (in_response checked m r) (shut true)).0 f).1.1.1.1.1.1.0 (refl, refl))

-- an SOF stands at its place, and nowhere else
sof_step : (limit : ℕ) (active : Bool) (st : Standing) → Sound limit active st → fault limit st sof ≡ 0 → Step limit active st Sof
unfolding fault bytes
sof_step limit active at_sof h f = record { spells = refl; sound = omega arith }
sof_step limit active (in_main m) h f = absurd (omega (arith, f))
sof_step limit active (at_normalization m) h f = absurd (omega (arith, f))
sof_step limit active (in_response plain m r) h f = absurd (omega (arith, f))
sof_step limit active (in_response checked m r) h f = absurd (omega (arith, f))

step : (limit : ℕ) (active : Bool) (st : Standing) (s : Symbol) → Sound limit active st → fault limit st (sign_of s) ≡ 0 → is_end (sign_of s) ≡ false
    → (s ≡ Eod → active ≡ false) → Step limit active st s
unfolding fault
step limit active st Noise h f e p = absurd (omega (arith, f))
step limit active st Bit0 h f e p = bit_step limit active st false h f
step limit active st Bit1 h f e p = bit_step limit active st true h f
step limit active st Eod h f e p = eod_step limit active st h f (p refl)
step limit active st Sof h f e p = sof_step limit active st h f
step limit active st Eof h f e p = never refl e
step limit active st Ifs h f e p = never refl e
step limit active st Break h f e p = absurd (omega (arith, f))
step limit active st Stuck h f e p = absurd (omega (arith, f))

-- ## Along the places

-- An EOD is passive.
eod_passive : (ws : List ℕ) (j : ℕ) → symbol_at ws j ≡ Eod → active_at j ≡ false
unfolding symbol_at
eod_passive ws j e = go (active_at j) refl (class_in (active_at j) (get_or ws j 0))
  where
    go : (b : Bool) → active_at j ≡ b → Window (active_at j) (class_of (active_at j) (get_or ws j 0)) (get_or ws j 0) → active_at j ≡ false
    go true p w = absurd (rw (e, p) at w)
    go false p w = p

sof_reached : (limit : ℕ) (ws : List ℕ) (o : ℕ) → active_at (o + 1) ≡ true → Reached limit ws o (o + 1)
sof_reached limit ws o a = record { count = rw (stands_sof (single ws) o) (add-zero (o + 1)); carry = rw (stands_sof (single ws) o) tt; sound = rw (stands_sof (single ws) o) a }

next_reached : (limit : ℕ) (ws : List ℕ) (o k : ℕ) → o < k → fault_at limit (single ws) o k ≡ 0 → end_at (single ws) k ≡ false → Reached limit ws o k → Reached limit ws o (k + 1)
next_reached limit ws o k h f e r = go (step limit (active_at k) (stands (single ws) o k) (symbol_at ws k) r.sound f e (eod_passive ws k))
  where
    go : Step limit (active_at k) (stands (single ws) o k) (symbol_at ws k) → Reached limit ws o (k + 1)
    go t =
        record {
          count = rw (stands_next (single ws) o k h, t.spells) (omega (arith, r.count, length-append (spelled (stands (single ws) o k)) (symbol_at ws k ∷ [])));
          carry = rw (stands_next (single ws) o k h, t.spells) (carry_append ws (o + 1) (spelled (stands (single ws) o k)) (symbol_at ws k ∷ []) r.carry (ap (symbol_at ws) r.count, tt));
          sound = rw (stands_next (single ws) o k h, level_turns k) t.sound;
        }

reached_by : (limit : ℕ) (ws : List ℕ) (o n : ℕ) → active_at (o + 1) ≡ true → Undecided limit (single ws) o (o + 1 + n) → Reached limit ws o (o + 1 + n)
reached_by limit ws o zero a u = let z : o + 1 + 0 ≡ o + 1 = omega arith in rw z (sof_reached limit ws o a)
reached_by limit ws o (suc n) a u =
    let z : o + 1 + suc n ≡ o + 1 + n + 1 = omega arith in
    let before : Undecided limit (single ws) o (o + 1 + n) = record { no_fault = λ j x y. u.no_fault j x (omega arith); no_end = λ j x y. u.no_end j x (omega arith) } in
    rw z
    (next_reached limit ws o (o + 1 + n) (omega arith) (u.no_fault (o + 1 + n) (omega arith) (omega arith)) (u.no_end (o + 1 + n) (omega arith) (omega arith))
    (reached_by limit ws o n a before))

-- All of that is known of a place before which nothing is decided.
pub reached : (limit : ℕ) (ws : List ℕ) (o k : ℕ) → o < k → active_at (o + 1) ≡ true → Undecided limit (single ws) o k → Reached limit ws o k
reached limit ws o k h a u =
    let z : o + 1 + (k - (o + 1)) ≡ k = omega arith in
    rw z at (reached_by limit ws o (k - (o + 1)) a (rw z u))
