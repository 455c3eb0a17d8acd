-- Laws.
-- The reader's own state: what the machine gets back of it, and how far places are counted.
use Rattle.std.specs.Prelude.{ℕ, ◌+◌, ◌^◌, ◌≤◌, min, ◌≡◌, refl, List}
use Rattle.std.proofs.Math.Nat.{min-eq_left, min-le_right}
use Rattle.frame.specs.Faults.{most_bytes}
use Rattle.frame_machine.specs.declared.Phase.{Phase}
use Rattle.frame_machine.specs.declared.Phase.TheVariants.{Sof, Main, Normalization, Plain, Checked}
use Rattle.frame_machine.specs.declared.Machine.{Machine}
use Rattle.live_held.specs.declared.Inside.{Inside}
use Rattle.live_held.specs.Held.{last_place, phase_number, inside_of}
use Rattle.live_held.specs.Reader.{phase_by, held_by}

-- ## The machine

phase_back : (p : Phase) → phase_by (phase_number p) ≡ p
phase_back Sof = refl
phase_back Main = refl
phase_back Normalization = refl
phase_back Plain = refl
phase_back Checked = refl

-- What was put into a reader comes back out of it.
pub held_inside : (m : Machine) (kept : List ℕ) → m.count ≤ most_bytes → m.began ≤ m.count → held_by (inside_of m kept) ≡ m
unfolding held_by inside_of
held_inside m kept h k = rw (phase_back m.phase, min-eq_left h, min-eq_left k)

-- Whatever a reader's bytes are, it holds no more bytes than a frame has ..
pub held_few : (i : Inside) → (held_by i).count ≤ most_bytes
unfolding held_by
held_few i = min-le_right i.count most_bytes

-- .. and no part begins after them.
pub held_within : (i : Inside) → (held_by i).began ≤ (held_by i).count
unfolding held_by
held_within i = min-le_right i.began (min i.count most_bytes)

-- ## The places

-- The last place is the last that 64 bits count.
pub last_is : last_place + 1 ≡ 2 ^ 64
last_is = refl
