-- The terminals and wires of the code as those of the definitions. Assumes nothing.
use Rattle.calculus.specs.Net.{inp, out}
use Rattle.calculus.specs.Net as net
use Rattle.netlist.specs.declared.Terminal.{Terminal}
use Rattle.netlist.specs.declared.Terminal.TheVariants as terminal

abbrev pub said_terminal : Terminal → net.Terminal
said_terminal (terminal.Input i) = inp i.0
said_terminal (terminal.Output o) = out o.0
