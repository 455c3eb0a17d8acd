-- Laws.
-- Written again: the parts of a good frame, without their checks, written at the nominal clock, are the recording's own
-- intervals from the opening to the closing end, each at its symbol's nominal width.
use Rattle.std.specs.Prelude.{ℕ, zero, suc, ◌+◌, ◌-◌, ◌≤◌, ◌<◌, ◌≡◌, refl, Bool, true, false, not, List, [], ◌∷◌, ◌++◌, length, take}
use Rattle.std.proofs.Common.{sym, ap, subst, ◌∙◌, append-nil, arith, add-zero, length-take, le-ltb}
use Rattle.std.proofs.lemmas.Bool.{not-false}
use Rattle.laws.specs.Tests.{never}
use Rattle.symbol.specs.declared.Symbol.{Symbol}
use Rattle.symbol.specs.declared.Symbol.TheVariants.{Sof}
use Rattle.symbol.specs.Clocks.{nominal_clock}
use Rattle.symbol.specs.Sending.{end_width, sent_of}
use Rattle.symbol.specs.SendingLaws.{nominal_good}
use Rattle.checkbyte.specs.Register.{with_check, Bytes}
use Rattle.frame.specs.declared.Response.{Response}
use Rattle.frame.specs.declared.Response.TheVariants.{Without, Plain, Checked}
use Rattle.frame.specs.Signs.{shuts}
use Rattle.frame.specs.Bits.{bytes, bits_of}
use Rattle.frame.specs.Line.{active_at, symbol_at, single, end_at}
use Rattle.frame.specs.Standing.{plain, checked, Standing, at_sof, in_main, at_normalization, in_response, counted, stands}
use Rattle.frame.specs.Faults.{facts, main_bytes, response_bytes, most_bytes, checks_out}
use Rattle.frame.specs.Reading.{Good, good, closed, fault_at, frame_at, reading}
use Rattle.frame.specs.Writing.{most_words, response_sent, frame_words, words, writing}
use Rattle.frame.proofs.Decided.{good_at}
use Rattle.frame.specs.ReadStated.{Earliest, GoodAt, Complete, ChecksRight}
use Rattle.frame.proofs.Outcomes.{OpenedBy, opened_by}
use Rattle.frame.proofs.ByteLaws.{bits_back, check_back, bytes_made}
use Rattle.frame.specs.Nominal.{without_check, width_of, nominal_at, nominal_from, nominal_intervals, response_bare}
use Rattle.frame.specs.Waves.{bit_symbols, frame_symbols}
use Rattle.frame.specs.WaveLaws.{level_turns}
use Rattle.frame.specs.WriteStated.{Carry, Admitted, spelled, Sound, Reached, WrittenAgain}
use Rattle.frame.proofs.ShownLaws.{end_passive, end_shuts, counted_end}
use Rattle.frame.proofs.WordLaws.{sent_widths, frame_sent_law}
use Rattle.frame.proofs.Parts.{shut_complete}
use Rattle.frame.specs.Admitted.{admitted}
use Rattle.frame.proofs.Spelled.{reached}

-- ## The parts that were read

-- the message before a closing end that stands at st: its main bytes without their check byte ..
abbrev main_of : Standing → List ℕ
main_of st = without_check (main_bytes st)

-- .. and its response's bytes without theirs
abbrev response_of : Standing → List ℕ
response_of st = response_bare (facts st).answered (response_bytes st)

-- The parts are admitted, and what stands before the closing end is what they put on the line.
record Message (st : Standing) : Type 0 where
  admits : Admitted (main_of st) (facts st).answered (response_of st)
  puts : spelled st ≡ frame_symbols (main_of st) (facts st).answered (response_of st)
  main_back : with_check (main_of st) ≡ main_bytes st
  response_back : response_sent (facts st).answered (response_of st) ≡ response_bytes st

-- a complete part that has a check byte: its bytes are those before the check byte with their check, and its bits are theirs
record Sealed (m : List Bool) : Type 0 where
  back : with_check (without_check (bytes m)) ≡ bytes m
  bits : bits_of (bytes m) ≡ m
  some : 1 ≤ length (without_check (bytes m))

sealed : (st : Standing) → Complete st → ChecksRight st → (facts st).has_check ≡ true → (facts st).fewest ≡ 2 → Sealed (facts st).part
sealed st c k h f =
    let two : 2 ≤ length (bytes (facts st).part) = rw f at c.enough in
    record {
      back = check_back (bytes (facts st).part) (omega arith) (not-false (checks_out (bytes (facts st).part)) (rw h at k));
      bits = bits_back (facts st).part c.whole_bytes;
      some = rw (length-take (length (bytes (facts st).part) - 1) (bytes (facts st).part)) (omega arith);
    }

main_message : (m : List Bool) → Complete (in_main m) → ChecksRight (in_main m) → length (bytes m) ≤ most_bytes → Message (in_main m)
unfolding bytes
main_message m c k l =
    let s : Sealed m = sealed (in_main m) c k refl refl in
    record {
      admits = record { some_main = s.some; some_response = tt; at_most = rw s.back (omega arith) };
      puts = rw (s.back, s.bits) (ap (λ (x : List Symbol). Sof ∷ x) (sym (append-nil (bit_symbols m))));
      main_back = s.back;
      response_back = refl;
    }

plain_message : (m r : List Bool) → Complete (in_main m) → ChecksRight (in_main m) → Complete (in_response plain m r) → length (bytes m) + length (bytes r) ≤ most_bytes → Message (in_response plain m r)
plain_message m r c k d l =
    let s : Sealed m = sealed (in_main m) c k refl refl in
    record {
      admits = record { some_main = s.some; some_response = d.enough; at_most = rw s.back l };
      puts = rw (s.back, s.bits, bits_back r d.whole_bytes);
      main_back = s.back;
      response_back = refl;
    }

checked_message : (m r : List Bool) → Complete (in_main m) → ChecksRight (in_main m) → Complete (in_response checked m r) → ChecksRight (in_response checked m r) → length (bytes m) + length (bytes r) ≤ most_bytes → Message (in_response checked m r)
checked_message m r c k d j l =
    let s : Sealed m = sealed (in_main m) c k refl refl in
    let t : Sealed r = sealed (in_response checked m r) d j refl refl in
    record {
      admits = record { some_main = s.some; some_response = t.some; at_most = rw (s.back, t.back) l };
      puts = rw (s.back, t.back, s.bits, t.bits);
      main_back = s.back;
      response_back = t.back;
    }

-- A closing end stands after a complete part with the right check, and what it closes is a message.
message : (active : Bool) (st : Standing) → active ≡ false → Sound most_bytes active st → Complete st → ChecksRight st → Message st
message active at_sof p h c k = never h p
message active (in_main m) p h c k = main_message m c k h
message active (at_normalization m) p h c k = never h.0 p
message active (in_response plain m r) p h c k = plain_message m r h.0 h.1.0 c h.1.1
message active (in_response checked m r) p h c k = checked_message m r h.0 h.1.0 c k h.1.1

-- ## The widths

-- Places that carry symbols, and are no ends, have at nominal widths what the nominal clock sends.
carry_nominal : (ws : List ℕ) (i : ℕ) (symbols : List Symbol) → Carry ws i symbols → ((j : ℕ) → i ≤ j → j < i + length symbols → end_at (single ws) j ≡ false)
    → nominal_from ws i (length symbols) ≡ sent_widths nominal_clock (active_at i) symbols
unfolding nominal_from nominal_at sent_widths
carry_nominal ws i [] c n = refl
carry_nominal ws i (s ∷ symbols) c n =
    rw (n i (omega arith) (omega arith), c.0, ← (level_turns i))
    (ap (λ (l : List ℕ). width_of (sent_of nominal_clock (active_at i) s) ∷ l)
    (carry_nominal ws (i + 1) symbols c.1 (λ j x y. n j (omega arith) (omega arith))))

nominal_more : (ws : List ℕ) (i n : ℕ) → nominal_from ws i (suc n) ≡ nominal_from ws i n ++ (nominal_at ws (i + n) ∷ [])
unfolding nominal_from
nominal_more ws i zero = rw (add-zero i)
nominal_more ws i (suc n) =
    let move : i + 1 + n ≡ i + suc n = omega arith in
    ap (λ (l : List ℕ). nominal_at ws i ∷ l) (nominal_more ws (i + 1) n ∙ rw move)

nominal_both : (ws : List ℕ) (i n : ℕ) → nominal_from ws i (suc (suc n)) ≡ nominal_at ws i ∷ (nominal_from ws (i + 1) n ++ (nominal_at ws (i + 1 + n) ∷ []))
unfolding nominal_from
nominal_both ws i n = ap (λ (l : List ℕ). nominal_at ws i ∷ l) (nominal_more ws (i + 1) n)

end_nominal : (ws : List ℕ) (j : ℕ) → end_at (single ws) j ≡ true → nominal_at ws j ≡ end_width.0
unfolding nominal_at
end_nominal ws j e = rw e

-- ## The theorem

-- The message of the frame that opens at o and closes at k, and its words again.
record Written (ws : List ℕ) (o k : ℕ) : Type 0 where
  its_message : Message (stands (single ws) o k)
  its_words : frame_words nominal_clock (main_of (stands (single ws) o k)) (facts (stands (single ws) o k)).answered (response_of (stands (single ws) o k)) ≡ nominal_intervals ws o k
  its_count : length (nominal_intervals ws o k) ≡ k - o + 1

nominal_length : (ws : List ℕ) (i n : ℕ) → length (nominal_from ws i n) ≡ n
unfolding nominal_from
nominal_length ws i zero = refl
nominal_length ws i (suc n) = ap suc (nominal_length ws (i + 1) n)

written : (ws : List ℕ) (o k : ℕ) → end_at (single ws) o ≡ true → Earliest most_bytes (single ws) o k → fault_at most_bytes (single ws) o k ≡ 0
    → end_at (single ws) k ≡ true → Written ws o k
written ws o k first e f last =
    let active : active_at (o + 1) ≡ true = level_turns o ∙ ap not (end_passive ws o first) in
    let r : Reached most_bytes ws o k = reached most_bytes ws o k e.later active e.before in
    let done = shut_complete most_bytes (stands (single ws) o k) ((single ws).shows k) (ap shuts (end_shuts (symbol_at ws k) last)) f in
    let same : counted (stands (single ws) o k) ((single ws).shows k) ≡ stands (single ws) o k = counted_end (stands (single ws) o k) (symbol_at ws k) last in
    let m : Message (stands (single ws) o k) = message (active_at k) (stands (single ws) o k) (end_passive ws k last) r.sound (subst Complete same done.0) (subst ChecksRight same done.1) in
    let inner : nominal_from ws (o + 1) (length (spelled (stands (single ws) o k))) ≡ sent_widths nominal_clock (active_at (o + 1)) (spelled (stands (single ws) o k)) = carry_nominal ws (o + 1) (spelled (stands (single ws) o k)) r.carry (λ j x y. e.before.no_end j (omega arith) (omega (arith, r.count))) in
    let n : k + 1 - o ≡ suc (suc (length (spelled (stands (single ws) o k)))) = omega (arith, r.count) in
    record {
      its_message = m;
      its_words =
          frame_sent_law nominal_clock (main_of (stands (single ws) o k)) (facts (stands (single ws) o k)).answered (response_of (stands (single ws) o k))
          ∙ rw (← m.puts, n, nominal_both ws o (length (spelled (stands (single ws) o k))), r.count, end_nominal ws o first, end_nominal ws k last, inner, active);
      its_count = nominal_length ws o (k + 1 - o) ∙ omega (arith, e.later);
    }

take_bytes : (n : ℕ) (bs : List ℕ) → Bytes bs → Bytes (take n bs)
take_bytes zero bs h = tt
take_bytes (suc n) [] h = tt
take_bytes (suc n) (b ∷ bs) h = (h.0, take_bytes n bs h.1)

bare_bytes : (kind : Response) (bs : List ℕ) → Bytes bs → Bytes (response_bare kind bs)
bare_bytes Without bs h = tt
bare_bytes Plain bs h = h
bare_bytes Checked bs h = take_bytes (length bs - 1) bs h

again_at : (ws : List ℕ) (o k : ℕ) → Written ws o k → WrittenAgain ws (closed (stands (single ws) o k) o k)
again_at ws o k w =
    record {
      is_admitted = (admitted (main_of (stands (single ws) o k)) (facts (stands (single ws) o k)).answered (response_of (stands (single ws) o k))).1 w.its_message.admits;
      main_bytes_law = take_bytes (length (main_bytes (stands (single ws) o k)) - 1) (main_bytes (stands (single ws) o k)) (bytes_made (facts (stands (single ws) o k)).main);
      response_bytes_law = bare_bytes (facts (stands (single ws) o k)).answered (response_bytes (stands (single ws) o k)) (bytes_made (facts (stands (single ws) o k)).response);
      main_again = w.its_message.main_back;
      response_again = w.its_message.response_back;
      same_words = w.its_words;
      as_many = ap length w.its_words ∙ w.its_count;
    }

again : (ws : List ℕ) (o : ℕ) (f : Good) → end_at (single ws) o ≡ true → GoodAt most_bytes (single ws) o f → WrittenAgain ws f
again ws o f first g =
    let k : ℕ = f.next in
    let same : frame_at (single ws) o k ≡ closed (stands (single ws) o k) o k = ap (λ (st : Standing). closed st o k) (counted_end (stands (single ws) o k) (symbol_at ws k) g.end) in
    subst (WrittenAgain ws) (sym (g.frame_is ∙ same)) (again_at ws o k (written ws o k first g.earliest g.no_fault g.end))

-- DEMAND 2, SECOND THEOREM. For every recording and every position from which reading answers a good frame.
pub written_again : (ws : List ℕ) (p lent : ℕ) (f : Good) → reading ws p lent ≡ good f → WrittenAgain ws f
written_again ws p lent f e =
    let r : OpenedBy most_bytes (single ws) p lent (good f) = opened_by most_bytes (single ws) p lent (good f) refl e in
    again ws r.opening f r.opens.end (good_at most_bytes (single ws) r.opening f r.is_decided)

-- The same through the writer's whole definition, refusals included: with 101 words lent it writes exactly those intervals.
pub writes_again : (ws : List ℕ) (p lent : ℕ) (f : Good) (words_lent : ℕ) → reading ws p lent ≡ good f → most_words ≤ words_lent
    → writing nominal_clock (without_check f.main) f.kind (response_bare f.kind f.response) words_lent ≡ words (nominal_intervals ws f.opening f.next)
unfolding writing
writes_again ws p lent f words_lent e h =
    let a : WrittenAgain ws f = written_again ws p lent f e in
    rw (nominal_good, a.is_admitted, le-ltb words_lent most_words h, a.same_words)
