-- Which package path has which stub: the path is the package's name, except `os/exec`.
use Rattle.std.specs.Prelude.{◌≡◌, ℕ, List, codes}
use Rattle.argot_stubs.specs.Texts.{errors_text, fmt_text, os_text, exec_text, strings_text, log_text, strconv_text, sync_text}

-- the package at that path has that stub
pub data HasStub (path text : List ℕ) : Type 0 where
  errors : path ≡ codes "errors" → text ≡ errors_text → HasStub path text
  fmt : path ≡ codes "fmt" → text ≡ fmt_text → HasStub path text
  os : path ≡ codes "os" → text ≡ os_text → HasStub path text
  exec : path ≡ codes "os/exec" → text ≡ exec_text → HasStub path text
  strings : path ≡ codes "strings" → text ≡ strings_text → HasStub path text
  log : path ≡ codes "log" → text ≡ log_text → HasStub path text
  strconv : path ≡ codes "strconv" → text ≡ strconv_text → HasStub path text
  sync : path ≡ codes "sync" → text ≡ sync_text → HasStub path text
