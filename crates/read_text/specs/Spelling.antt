-- The text of a read, in which it is written in one way.
use Rattle.std.specs.Prelude.{ℕ, List, ◌++◌, codes}
use Rattle.app_tree.specs.declared.term.Read.{Read}
use Rattle.app_tree.specs.declared.draft_term.ReadForm.{ReadForm}
use Rattle.app_tree.specs.declared.draft_term.ReadForm.TheVariants as form
use Rattle.app_tree.specs.Tree.{Shape}
use Rattle.app_tree.specs.Declarations.{node_declarations}
use Rattle.app_tree.specs.Named.{named_form, name_of_read}

abbrev pub read_text : ReadForm → List ℕ → List ℕ
read_text form.Input name = codes "input$" ++ name
read_text form.Named name = name ++ codes "()"
read_text form.Status name = codes "status(" ++ name ++ codes ")"
read_text form.Result name = codes "result(" ++ name ++ codes ")"
read_text form.Width name = codes "width(" ++ name ++ codes ")"
read_text form.Height name = codes "height(" ++ name ++ codes ")"

-- of a read in an app, with the name of what is read
abbrev pub text_of_read : Shape → Read → List ℕ
text_of_read app r = read_text (named_form r) (name_of_read (node_declarations app.items) r)
