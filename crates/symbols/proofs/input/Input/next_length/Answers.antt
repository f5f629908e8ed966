-- A line that has ended has its line feed among the bytes that are read (Lines).
use Rattle.std.proofs.Common.{◌∙◌, sym, ap, ◌-◌, Ok, arith, drop, take, length-take-le, length-drop}
use Rattle.symbols.proofs.Lines.{line_inside}
use Rattle.symbols.proofs.input.Input.next_length.Goals as goal

pub returns-in-Ok-Line : goal.returns-in-Ok-Line
returns-in-Ok-Line c =
    let self = c.loop.self in
    let on = drop self.at self.bytes in
    let line = c.in-Ok-Line in
    let inside = line_inside (take (self.end - self.at) on) self.over self.line line.n (sym line.ensures ∙ ap Ok line.field-0-is) in
    omega (arith, inside, length-take-le (self.end - self.at) on, length-drop self.at self.bytes)
