-- Machinery.
-- One step of the frame machine, as the code takes it. What it has to do with document 01 is shown in Does.antt.
use Rattle.std.specs.Prelude.{ℕ, ◌+◌, ◌-◌, ◌*◌, Bool, true, false, cond, not, ◌&&◌, eqb, leb, ltb}
use Rattle.checkbyte.specs.Register.{all_ones, residue, step_of as register_step}
use Rattle.frame.specs.declared.Fault.{Fault}
use Rattle.frame.specs.declared.Fault.TheVariants.{NoSof, LateSof, SplitByte, FewBytes, WrongCheck, EodAfterResponse, ThirteenthByte}
use Rattle.frame.specs.declared.Sign.{Sign}
use Rattle.frame.specs.declared.Sign.TheVariants.{Bit, Shut, Sof as Start, Wrong}
use Rattle.frame.specs.Bits.{value}
use Rattle.frame_machine.specs.declared.Phase.{Phase}
use Rattle.frame_machine.specs.declared.Phase.TheVariants.{Sof, Main, Normalization, Plain, Checked}
use Rattle.frame_machine.specs.declared.Machine.{Machine}
use Rattle.frame_machine.specs.declared.Event.TheVariants.{Going, Byte, Closed, Faulty}
use Rattle.frame_machine.specs.declared.Stepped.{Stepped}
use Rattle.frame_machine.specs.declared.shut.Needed.{Needed}

-- the machine before the SOF
abbrev pub fresh : Machine
fresh = record { phase = Sof; partial = 1; count = 0; began = 0; register = all_ones }

-- the interval is at fault
abbrev pub faulty : Machine → Fault → Stepped
faulty m f = record { machine = m; event = Faulty f }

-- the interval closes the frame
abbrev pub closing : Machine → Stepped
closing m = record { machine = m; event = Closed }

-- the next part begins after the interval, with a register of its own
abbrev pub begun : Machine → Phase → Stepped
begun m p =
    record { machine = record { phase = p; partial = 1; count = m.count; began = m.count; register = all_ones }; event = Going }

-- a bit of a byte: `bits` are those of the byte so far, after their leading 1
abbrev pub pushed : Machine → ℕ → Stepped
pushed m bits =
    cond (ltb bits 256)
    (record {
      machine = record { phase = m.phase; partial = bits; count = m.count; began = m.began; register = m.register };
      event = Going;
    })
    (record {
      machine = record { phase = m.phase; partial = 1; count = m.count + 1; began = m.began; register = register_step m.register (bits - 256) };
      event = Byte (bits - 256);
    })

-- the same in a frame that may be full: as many whole bytes as it may have take no bit more
unfoldable pub push_of : (limit : ℕ) → Machine → Bool → Stepped
push_of limit m one = cond (leb limit m.count) (faulty m ThirteenthByte) (pushed m (m.partial * 2 + value one))

-- the normalization bit: a short one, which is a 1, begins a plain response
abbrev pub response_begun : Machine → Bool → Stepped
response_begun m one = cond one (begun m Plain) (begun m Checked)

-- the phases in which bits belong to a byte
abbrev pub part_of : Phase → Bool
part_of Sof = false
part_of Normalization = false
part_of Main = true
part_of Plain = true
part_of Checked = true

-- the SOF's phase
abbrev pub sof_phase : Phase → Bool
sof_phase Sof = true
sof_phase Normalization = false
sof_phase Main = false
sof_phase Plain = false
sof_phase Checked = false

-- a bit's width, by where it stands
unfoldable pub bit_of : (limit : ℕ) → Machine → Bool → Stepped
bit_of limit m one = cond (part_of m.phase) (push_of limit m one) (cond (sof_phase m.phase) (faulty m NoSof) (response_begun m one))

-- the SOF's width: the SOF, or a fault anywhere after it
unfoldable pub sof_of : Machine → Stepped
sof_of m = cond (sof_phase m.phase) (begun m Main) (faulty m LateSof)

-- what is asked of a part at its EOD or end
abbrev pub needing : ℕ → Bool → Needed
needing fewest checked = record { fewest = fewest; checked = checked }

-- that of each part; nothing is asked where no EOD or end can stand
abbrev pub needed_of : Phase → Needed
needed_of Sof = needing 0 false
needed_of Normalization = needing 0 false
needed_of Main = needing 2 true
needed_of Plain = needing 1 false
needed_of Checked = needing 2 true

-- an EOD that is not at fault itself: a response may follow the main part, and nothing follows a response
abbrev pub eod_in : Phase → Machine → Stepped
eod_in Sof m = begun m Main
eod_in Normalization m = begun m Normalization
eod_in Main m = begun m Normalization
eod_in Plain m = faulty m EodAfterResponse
eod_in Checked m = faulty m EodAfterResponse

-- the same, by where the machine stands
abbrev pub eod_of : Machine → Stepped
eod_of m = eod_in m.phase m

-- an EOD or an end: 16, 17 and 18 are judged in this order, then an EOD goes on and an end closes
unfoldable pub close_of : Machine → Bool → Stepped
close_of m eod =
    cond (not (eqb m.partial 1)) (faulty m SplitByte)
    (cond (ltb m.count (m.began + (needed_of m.phase).fewest)) (faulty m FewBytes)
    (cond ((needed_of m.phase).checked && not (eqb m.register residue)) (faulty m WrongCheck)
    (cond eod (eod_of m) (closing m))))

-- one interval more, by what it shows, in a frame of at most `limit` bytes
abbrev pub step_of : (limit : ℕ) → Machine → Sign → Stepped
step_of limit m (Bit one) = bit_of limit m one
step_of limit m (Shut eod) = close_of m eod
step_of limit m Start = sof_of m
step_of limit m (Wrong f) = faulty m f
