-- The writer and the reader, over modules and faulty texts that were written out by hand. Assumes nothing.
use mathlib.Core.Path.{◌≡◌, refl}
use mathlib.Core.Option.{bind}
use mathlib.Core.List.{map}
use Rattle.export_calculus.specs.Verilog.{element_forms, port_forms, assign_forms, header, ports_end, module_end, letter, line_text, module_text}
use Rattle.export_calculus.specs.VerilogRead.{element_words, port_words, assign_words, number_here, scan, block, element_read, pin_read, body_read, read_verilog}
use Rattle.export_theorems.specs.Worked.{worked_modules, written_row, read_row, net_row, faulty_modules, no_net}

pub worked_modules_lem : map written_row worked_modules ≡ worked_modules
unfolding module_text element_forms port_forms assign_forms header ports_end module_end letter line_text
worked_modules_lem = refl

pub worked_read : map read_row worked_modules ≡ map net_row worked_modules
unfolding read_verilog body_read pin_read element_read block scan number_here element_words port_words assign_words header ports_end module_end bind
worked_read = refl

pub faulty_modules_lem : map (map read_verilog) faulty_modules ≡ map (map no_net) faulty_modules
unfolding read_verilog body_read pin_read element_read block scan number_here element_words port_words assign_words header ports_end module_end bind
faulty_modules_lem = refl
