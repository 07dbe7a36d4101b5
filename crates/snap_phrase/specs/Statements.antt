-- Statements with nodes below them.
use Rattle.std.specs.Prelude.{Bool, true, false}
use Rattle.snap_ast.specs.declared.form.Form.{Form}
use Rattle.snap_ast.specs.declared.form.Form.TheVariants as f

abbrev pub is_compound : Form → Bool
is_compound (f.Let found) = true
is_compound (f.Const found) = true
is_compound (f.Function named parameters body) = true
is_compound (f.Block body) = true
is_compound (f.Expression value) = true
is_compound (f.If test chosen) = true
is_compound (f.IfElse test chosen otherwise) = true
is_compound (f.While test body) = true
is_compound (f.For start test update body) = true
is_compound (f.ForLet found test update body) = true
is_compound (f.ForOf is_constant named values body) = true
is_compound (f.Return value) = true
is_compound (f.Throw value) = true
is_compound (f.TryCatch tried handler finalizer) = true
is_compound (f.TryCatchName tried named handler finalizer) = true
is_compound (f.TryFinally tried finalizer) = true
is_compound form = false
