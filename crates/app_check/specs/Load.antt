-- The app that a file's bytes stand for, or why they stand for none.
use Rattle.std.specs.Prelude.{ℕ, Bool, true, false, List, length, Option, Some, None, Result, Ok, Err, nat_le}
use Rattle.rx_value.specs.Results.{◌>>=◌}
use Rattle.app_tokens.specs.declared.error.TokenError.{TokenError}
use Rattle.app_tokens.specs.declared.error.TokenError.TheVariants as token
use Rattle.app_tokens.specs.Tokens.{Tokens}
use Rattle.app_tokens.specs.Scan.{tokens_of}
use Rattle.app_tree.specs.declared.refusal.Fault.{Fault}
use Rattle.app_tree.specs.declared.refusal.Fault.TheVariants as fault
use Rattle.app_tree.specs.declared.refusal.Refusal.{Refusal}
use Rattle.app_tree.specs.DraftTree.{DraftShape}
use Rattle.app_tree.specs.Tree.{Shape}
use Rattle.app_tree.specs.Faults.{checked}
use Rattle.app_reader.specs.declared.error.ReadError.{ReadError}
use Rattle.app_reader.specs.declared.error.ReadError.TheVariants as read
use Rattle.app_reader.specs.Items.{read_at}
use Rattle.app_check.specs.declared.limits.TheConstants.{FILE_LIMIT}
use Rattle.app_check.specs.declared.error.LoadError.{LoadError}
use Rattle.app_check.specs.declared.error.LoadError.TheVariants as error
use Rattle.app_check.specs.CachedReaders.{first_uncovered}

-- ---- the refusals of the steps

abbrev pub of_token_error : TokenError → LoadError
of_token_error (token.BadByte place) = error.BadByte place
of_token_error (token.OpenText place) = error.OpenText place
of_token_error token.Memory = error.Memory

abbrev pub of_read_error : ReadError → LoadError
of_read_error (read.Unexpected place) = error.Unexpected place
of_read_error (read.TooDeep place) = error.TooDeep place
of_read_error read.Memory = error.Memory

abbrev pub of_fault : Fault → List ℕ → ℕ → LoadError
of_fault fault.TooManyItems name place = error.TooManyItems place
of_fault fault.NameTwice name place = error.NameTwice name place
of_fault fault.NameUnknown name place = error.NameUnknown name place
of_fault fault.ArgCount name place = error.ArgCount name place
of_fault fault.ReadInTask name place = error.ReadInTask place
of_fault fault.ForwardRead name place = error.ForwardRead name place
of_fault fault.IsolateInFold name place = error.IsolateInFold place
of_fault fault.WriteInExpr name place = error.WriteInExpr place
of_fault fault.FoldTooDeep name place = error.FoldTooDeep place

abbrev pub of_refusal : Refusal → LoadError
of_refusal r = of_fault r.fault r.name r.place

-- ---- the steps, one after another

abbrev pub or_refusal : Result Shape Refusal → Result Shape LoadError
or_refusal (Ok app) = Ok app
or_refusal (Err r) = Err (of_refusal r)

abbrev pub unless_uncovered : Option LoadError → Shape → Result Shape LoadError
unless_uncovered None app = Ok app
unless_uncovered (Some e) app = Err e

-- the app that a draft stands for, or the first refusal: of the checks that have their order by places, and then of the
-- cached readers, in rising number
abbrev pub checked_app : DraftShape → Result Shape LoadError
checked_app d = or_refusal (checked d) >>= (λ app. unless_uncovered (first_uncovered d app) app)

abbrev pub app_of_draft : Result DraftShape ReadError → Result Shape LoadError
app_of_draft (Ok d) = checked_app d
app_of_draft (Err e) = Err (of_read_error e)

abbrev pub app_of_tokens : Result Tokens TokenError → Result Shape LoadError
app_of_tokens (Ok tokens) = app_of_draft (read_at tokens)
app_of_tokens (Err e) = Err (of_token_error e)

abbrev pub within_limit : Bool → List ℕ → Result Shape LoadError
within_limit true bytes = app_of_tokens (tokens_of bytes)
within_limit false bytes = Err error.TooLong

-- it has no more bytes than a file may have
abbrev pub is_short : List ℕ → Bool
is_short bytes = nat_le (length bytes) FILE_LIMIT

-- the app of a file: too long, or else what its tokens, the draft that they are, and the checks give
abbrev pub loaded : List ℕ → Result Shape LoadError
loaded bytes = within_limit (is_short bytes) bytes

-- ---- what a function of the code says of it

-- what an error refuses; want of memory refuses nothing
abbrev pub refusal : LoadError → Option LoadError
refusal error.Memory = None
refusal e = Some e
