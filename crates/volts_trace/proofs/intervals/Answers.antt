-- `volts_trace::intervals` meets its contract: what it asks of `write_intervals`. The ways out are laws of Exits.
use mathlib.Core.Path.{sym, ◌∙◌}
use borrow.Author.Rules.{rules}
use Rattle.volts_trace.proofs.intervals.Goals as goal

pub write_intervals-requires : goal.write_intervals-requires
write_intervals-requires c =
    record { samples_value = sym c.some_unusable.ensures ∙ c.if-some_unusable.false; samples_nonzero = search rules }
