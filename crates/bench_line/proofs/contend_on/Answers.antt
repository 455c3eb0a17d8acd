-- `bench_line::contend_on` meets its contract: the senders are those of the stations up to the last holder.
use Rattle.std.proofs.Common.{◌≡◌, length, take, arith, rules, length-take-le}
use Rattle.bench.specs.Stations.{most_stations}
use Rattle.bench_line.specs.ContendLaws.{contended}
use Rattle.bench_line.proofs.contend_on.Goals as goal

pub returns : goal.returns
returns c =
    let all : length c.args.at ≡ most_stations = search rules in
    let n : length (take c.places-places.result c.args.at) ≡ c.places-places.result =
    length-take-le c.places-places.result c.args.at (omega (arith, c.places-places.ensures.few)) in
    let m : length c.send_bits-bits.new.senders ≡ c.places-places.result = search (rules, length-take-le) in
    contended c.args.at all _ c.places-places.ensures _ (rw n at c.senders-senders.ensures) _ _ _ _ c.send_bits-bits.ensures _
    (rw m at c.verdicts.ensures)
