-- The scope's plan, read and run by computing. Assumes nothing.
use mathlib.Core.Path.{◌≡◌, refl, ap}
use mathlib.Core.List.{◌++◌}
use Rattle.lists.specs.Search.{any, first, any_pair}
use Rattle.text.specs.Text.{in_front, parts}
use Rattle.text.specs.Number.{are_digits, digits_value, number_of}
use Rattle.names.specs.Names.{limit}
use Rattle.points.specs.Axes.{axis_length, value_at, axis_values, count}
use Rattle.line.specs.Line.{memory_of, draw_of, name_of}
use Rattle.axis.specs.Axis.{values_of, bad_form, axis_line}
use Rattle.plan.specs.Reading.{kept_lines, accepted_reading, read_axes, read_draw, read_memory, reading}
use Rattle.listing.specs.Listing.{heading}
use Rattle.run.specs.Example.{example_axes}
use Rattle.run.proofs.ExampleLaws.{example}
use Rattle.theorems.specs.Example.{plan_text, ExampleListed, OfExample}

read : reading plan_text ≡ accepted_reading 4 0 example_axes
unfolding any first any_pair in_front parts are_digits digits_value number_of axis_length value_at axis_values limit memory_of draw_of
    name_of
    values_of bad_form axis_line kept_lines read_axes read_draw read_memory reading
read = refl

pub example-listed : ExampleListed
unfolding axis_length count
example-listed = rw read (ap (λ ls. heading ++ ls) example)

pub of-example : OfExample
of-example = record { example-listed = example-listed }
