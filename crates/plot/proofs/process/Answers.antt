-- `process` meets its contract. Assumes nothing.
use mathlib.Core.Path.{sym}
use lib.ListN.{get_or-eq_default}
use Rattle.pixel.specs.PixelOp.{processed, pixel_operations}
use Rattle.pixel.proofs.PixelOpLaws.{past}
use Rattle.plot.proofs.process.Goals as goal

pub returns-in-0 : goal.returns-in-0
unfolding processed pixel_operations
returns-in-0 c =
    rw c.in-0.is

pub returns-in-1 : goal.returns-in-1
unfolding processed pixel_operations
returns-in-1 c =
    rw c.in-1.is

pub returns-in-2 : goal.returns-in-2
unfolding processed pixel_operations
returns-in-2 c =
    rw c.in-2.is

pub returns-in-3 : goal.returns-in-3
unfolding processed pixel_operations
returns-in-3 c =
    rw c.in-3.is

pub returns-in-4 : goal.returns-in-4
unfolding processed pixel_operations
returns-in-4 c =
    rw c.in-4.is

pub returns-in-5 : goal.returns-in-5
unfolding processed pixel_operations
returns-in-5 c =
    rw c.in-5.is

pub returns-in-6 : goal.returns-in-6
unfolding processed pixel_operations
returns-in-6 c =
    rw c.in-6.is

pub returns-in-7 : goal.returns-in-7
unfolding processed pixel_operations
returns-in-7 c =
    rw c.in-7.is

pub returns-in-8 : goal.returns-in-8
unfolding processed pixel_operations
returns-in-8 c =
    rw c.in-8.is

pub returns-in-9 : goal.returns-in-9
unfolding processed pixel_operations
returns-in-9 c =
    rw c.in-9.is

pub returns-in-10 : goal.returns-in-10
unfolding processed pixel_operations
returns-in-10 c =
    rw c.in-10.is

pub returns-in-11 : goal.returns-in-11
unfolding processed pixel_operations
returns-in-11 c =
    rw c.in-11.is

pub returns-in-12 : goal.returns-in-12
unfolding processed pixel_operations
returns-in-12 c =
    rw c.in-12.is

pub returns-in-13 : goal.returns-in-13
unfolding processed pixel_operations
returns-in-13 c =
    rw c.in-13.is

pub returns-in-14 : goal.returns-in-14
unfolding processed pixel_operations
returns-in-14 c =
    rw c.in-14.is

pub returns-in-15 : goal.returns-in-15
unfolding processed pixel_operations
returns-in-15 c =
    rw c.in-15.is

pub returns-in-16 : goal.returns-in-16
unfolding processed pixel_operations
returns-in-16 c =
    rw (c.in-16.is, c.add.ensures)

pub returns-in-17 : goal.returns-in-17
unfolding processed pixel_operations
returns-in-17 c =
    rw (c.in-17.is, c.add_saturated.ensures)

pub returns-in-18 : goal.returns-in-18
unfolding processed pixel_operations
returns-in-18 c =
    rw (c.in-18.is, c.subtract.ensures)

pub returns-in-19 : goal.returns-in-19
unfolding processed pixel_operations
returns-in-19 c =
    rw (c.in-19.is, c.subtract_saturated.ensures)

pub returns-in-20 : goal.returns-in-20
unfolding processed pixel_operations
returns-in-20 c =
    rw (c.in-20.is, c.greater.ensures)

pub returns-in-21 : goal.returns-in-21
unfolding processed pixel_operations
returns-in-21 c =
    rw (c.in-21.is, c.lesser.ensures)

pub returns-in_default : goal.returns-in_default
unfolding processed pixel_operations
returns-in_default c =
    let a = c.args in
    sym (get_or-eq_default (pixel_operations a.top a.s a.d) 0 (past 22 a.w.pp c.in_default.in_default-own.rest))
