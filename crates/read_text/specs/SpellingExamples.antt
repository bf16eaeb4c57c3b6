-- Worked examples of the text of a read.
use Rattle.std.specs.Prelude.{◌≡◌, codes}
use Rattle.app_tree.specs.declared.term.Read.TheVariants.{Input, Expr, Status, Width}
use Rattle.app_tree.specs.Tree.{no_trees, Shape}
use Rattle.app_tree.specs.CoverExamples.{d, with_output}
use Rattle.read_text.specs.Spelling.{text_of_read}

-- inputs `a`, `b` and `d` are sources 0 to 2, the expression `e` is reader 0, and the output `o` is reader 1
abbrev pub app : Shape
app = with_output no_trees d

abbrev pub OfInput : Type 0
OfInput = text_of_read app (Input 2) ≡ codes "input$d"

abbrev pub OfExpression : Type 0
OfExpression = text_of_read app (Expr 0) ≡ codes "e()"

abbrev pub OfWidth : Type 0
OfWidth = text_of_read app (Width 1) ≡ codes "width(o)"

-- what isn't there has no name
abbrev pub OfNothing : Type 0
OfNothing = text_of_read app (Status 7) ≡ codes "status()"
