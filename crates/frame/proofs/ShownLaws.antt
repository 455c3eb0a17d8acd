-- Laws.
-- What the line of document 01 shows, by its widths: which intervals are ends, and which are wrong by themselves.
use Rattle.std.specs.Prelude.{ℕ, ◌<◌, ◌≡◌, refl, Bool, true, false, not, List, ◌↔◌, leb, get_or}
use Rattle.std.proofs.Common.{sym, ap, ◌∙◌, arith}
use Rattle.std.proofs.lemmas.Bool.{not-true}
use Rattle.laws.specs.Tests.{never, both}
use Rattle.symbol.specs.declared.Symbol.{Symbol}
use Rattle.symbol.specs.declared.Symbol.TheVariants.{Noise, Bit0, Bit1, Eod, Sof, Eof, Ifs, Break, Stuck}
use Rattle.symbol.specs.Classes.{Window, class_of, end_of, ends}
use Rattle.symbol.specs.ClassLaws.{class_only, class_in, end_is}
use Rattle.frame.specs.Signs.{shut, wrong_of, is_end}
use Rattle.frame.specs.Line.{active_at, symbol_at, sign_of, single, end_at}
use Rattle.frame.specs.Standing.{Standing, counted}
use Rattle.frame.proofs.StandingLaws.{counted_shut}
use Rattle.frame.specs.ReadStated.{WrongWidth, is_noise, is_break, is_stuck}

-- ## Ends

ends_shown : (s : Symbol) → is_end (sign_of s) ≡ ends s
ends_shown Noise = refl
ends_shown Bit0 = refl
ends_shown Bit1 = refl
ends_shown Eod = refl
ends_shown Sof = refl
ends_shown Eof = refl
ends_shown Ifs = refl
ends_shown Break = refl
ends_shown Stuck = refl

-- "an end is a passive interval of 240 or more": so a width shows an end
pub end_shown : (active : Bool) (w : ℕ) → is_end (sign_of (class_of active w)) ≡ end_of active w
end_shown active w = ends_shown (class_of active w) ∙ sym (end_is active w)

-- .. and so does a place.
pub end_width_law : (ws : List ℕ) (k : ℕ) → end_at (single ws) k ≡ end_of (active_at k) (get_or ws k 0)
unfolding symbol_at
end_width_law ws k = end_shown (active_at k) (get_or ws k 0)

-- An end is passive.
pub end_passive : (ws : List ℕ) (k : ℕ) → end_at (single ws) k ≡ true → active_at k ≡ false
unfolding end_of
end_passive ws k e = not-true (active_at k) (both (not (active_at k)) (leb 240 (get_or ws k 0)) (sym (end_width_law ws k) ∙ e)).0

-- A symbol that is an end shuts a part, and is no EOD.
pub end_shuts : (s : Symbol) → is_end (sign_of s) ≡ true → sign_of s ≡ shut false
end_shuts Noise e = never e refl
end_shuts Bit0 e = never e refl
end_shuts Bit1 e = never e refl
end_shuts Eod e = never e refl
end_shuts Sof e = never e refl
end_shuts Eof e = refl
end_shuts Ifs e = refl
end_shuts Break e = never e refl
end_shuts Stuck e = never e refl

-- So it completes no bit.
pub counted_end : (st : Standing) (s : Symbol) → is_end (sign_of s) ≡ true → counted st (sign_of s) ≡ st
counted_end st s e = ap (counted st) (end_shuts s e) ∙ counted_shut st false

-- ## Wrong by themselves

-- An interval shows what is wrong by itself, with number n, exactly where its width is of those.
pub shows_wrong : (active : Bool) (w n : ℕ) → 0 < n → (wrong_of (sign_of (class_of active w)) ≡ n) ↔ WrongWidth active w n
shows_wrong active w n h = (there (class_of active w) (class_in active w), back)
  where
    there : (s : Symbol) → Window active s w → wrong_of (sign_of s) ≡ n → WrongWidth active w n
    there Noise k e = rw (← e) (is_noise k)
    there Bit0 k e = absurd (omega (arith, e, h))
    there Bit1 k e = absurd (omega (arith, e, h))
    there Eod k e = absurd (omega (arith, e, h))
    there Sof k e = absurd (omega (arith, e, h))
    there Eof k e = absurd (omega (arith, e, h))
    there Ifs k e = absurd (omega (arith, e, h))
    there Break k e = rw (← e) (is_break k)
    there Stuck k e = rw (← e) (is_stuck k)

    back : {m : ℕ} → WrongWidth active w m → wrong_of (sign_of (class_of active w)) ≡ m
    back (is_noise k) = rw (class_only active Noise w k)
    back (is_break k) = rw (class_only active Break w k)
    back (is_stuck k) = rw (class_only active Stuck w k)

-- A place shows what the symbol of its width is, at the level of the place.
pub shows_class : (ws : List ℕ) (k : ℕ) → (single ws).shows k ≡ sign_of (class_of (active_at k) (get_or ws k 0))
unfolding symbol_at
shows_class ws k = refl
