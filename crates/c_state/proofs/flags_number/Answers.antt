-- `flags_number` meets its contract: each number is that of its flag. Assumes nothing.
use Rattle.std.proofs.Common.{rules, ◌≡◌, false, get_or}
use Rattle.c_arrays.specs.Out.{flag_number}
use Rattle.c_state.proofs.flags_number.Goals as goal

pub returns : goal.returns
returns c =
    let h0 : get_or c.map-p.result 0 0 ≡ flag_number (get_or c.args.s.present 0 false) = search rules in
    let h1 : get_or c.map-p.result 1 0 ≡ flag_number (get_or c.args.s.present 1 false) = search rules in
    let h2 : get_or c.map-p.result 2 0 ≡ flag_number (get_or c.args.s.present 2 false) = search rules in
    let h3 : get_or c.map-p.result 3 0 ≡ flag_number (get_or c.args.s.present 3 false) = search rules in
    let h4 : get_or c.map-p.result 4 0 ≡ flag_number (get_or c.args.s.present 4 false) = search rules in
    let h5 : get_or c.map-p.result 5 0 ≡ flag_number (get_or c.args.s.present 5 false) = search rules in
    let h6 : get_or c.map-p.result 6 0 ≡ flag_number (get_or c.args.s.present 6 false) = search rules in
    let h7 : get_or c.map-p.result 7 0 ≡ flag_number (get_or c.args.s.present 7 false) = search rules in
    rw (h0, h1, h2, h3, h4, h5, h6, h7)
