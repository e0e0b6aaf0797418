-- The texts of the stubs. Each text is given line by line, and each line ends in a newline.
-- A function without a body stands for one whose results depend on all its arguments.
use Rattle.std.specs.Prelude.{ℕ, List, [], ◌∷◌, ◌++◌, codes}

-- the lines as one text
abbrev pub lines : List (List ℕ) → List ℕ
lines [] = []
lines (l ∷ ls) = l ++ (10 ∷ lines ls)

-- the package `errors`
unfoldable pub errors_text : List ℕ
errors_text =
    lines (
    codes "package errors"
    ∷ codes "type text struct{ s string }"
    ∷ codes "func (e *text) Error() string { return e.s }"
    ∷ codes "func New(s string) error { return &text{s} }"
    ∷ []
    )

-- the package `fmt`
unfoldable pub fmt_text : List ℕ
fmt_text =
    lines (
    codes "package fmt"
    ∷ codes "import \"errors\""
    ∷ codes "func Sprint(a ...any) string"
    ∷ codes "func Sprintf(format string, a ...any) string"
    ∷ codes "func Sprintln(a ...any) string"
    ∷ codes "func Print(a ...any) (int, error) { return len(a), errors.New(Sprint(a...)) }"
    ∷ codes "func Println(a ...any) (int, error) { return len(a), errors.New(Sprint(a...)) }"
    ∷ codes "func Printf(format string, a ...any) (int, error) { return len(a), errors.New(Sprint(a...)) }"
    ∷ codes "func Errorf(format string, a ...any) error { return errors.New(Sprintf(format, a...)) }"
    ∷ []
    )

-- the package `os`
unfoldable pub os_text : List ℕ
os_text =
    lines (
    codes "package os"
    ∷ codes "import \"errors\""
    ∷ codes "type File struct{ name string }"
    ∷ codes "var Args = args()"
    ∷ codes "var Stdin = &File{\"stdin\"}"
    ∷ codes "var Stdout = &File{\"stdout\"}"
    ∷ codes "var Stderr = &File{\"stderr\"}"
    ∷ codes "func args() []string"
    ∷ codes "func content(name string) []byte"
    ∷ codes "func Getenv(key string) string"
    ∷ codes "func Exit(code int)"
    ∷ codes "func ReadFile(name string) ([]byte, error) { return content(name), errors.New(name) }"
    ∷ codes "func (f *File) Read(b []byte) (int, error) { return copy(b, content(f.name)), errors.New(f.name) }"
    ∷ codes "func (f *File) Write(b []byte) (int, error) { return len(b), errors.New(f.name) }"
    ∷ []
    )

-- the package `os/exec`
unfoldable pub exec_text : List ℕ
exec_text =
    lines (
    codes "package exec"
    ∷ codes "import \"errors\""
    ∷ codes "type Cmd struct { Path string; Args []string; Dir string }"
    ∷ codes "func Command(name string, arg ...string) *Cmd { return &Cmd{Path: name, Args: append([]string{name}, arg...)} }"
    ∷ codes "func result(c *Cmd) string"
    ∷ codes "func (c *Cmd) Run() error { return errors.New(result(c)) }"
    ∷ codes "func (c *Cmd) Output() ([]byte, error) { return []byte(result(c)), errors.New(result(c)) }"
    ∷ []
    )

-- the package `strings`
unfoldable pub strings_text : List ℕ
strings_text =
    lines (
    codes "package strings"
    ∷ codes "func Contains(s, t string) bool"
    ∷ codes "func HasPrefix(s, t string) bool"
    ∷ codes "func HasSuffix(s, t string) bool"
    ∷ codes "func Index(s, t string) int"
    ∷ codes "func Join(a []string, sep string) string"
    ∷ codes "func Split(s, sep string) []string"
    ∷ codes "func Fields(s string) []string"
    ∷ codes "func ReplaceAll(s, old, new string) string"
    ∷ codes "func ToLower(s string) string"
    ∷ codes "func ToUpper(s string) string"
    ∷ codes "func TrimSpace(s string) string"
    ∷ codes "func TrimPrefix(s, t string) string"
    ∷ codes "func TrimSuffix(s, t string) string"
    ∷ codes "func Repeat(s string, n int) string"
    ∷ codes "type Builder struct{ s string }"
    ∷ codes "func (b *Builder) WriteString(s string) (int, error) { b.s = b.s + s; return len(s), nil }"
    ∷ codes "func (b *Builder) String() string { return b.s }"
    ∷ []
    )

-- the package `log`
unfoldable pub log_text : List ℕ
log_text =
    lines (
    codes "package log"
    ∷ codes "func Print(a ...any) {}"
    ∷ codes "func Println(a ...any) {}"
    ∷ codes "func Printf(format string, a ...any) {}"
    ∷ codes "func Fatal(a ...any) {}"
    ∷ codes "func Fatalf(format string, a ...any) {}"
    ∷ []
    )

-- the package `strconv`
unfoldable pub strconv_text : List ℕ
strconv_text =
    lines (
    codes "package strconv"
    ∷ codes "import \"errors\""
    ∷ codes "func number(s string) int"
    ∷ codes "func Itoa(n int) string"
    ∷ codes "func Quote(s string) string"
    ∷ codes "func Atoi(s string) (int, error) { return number(s), errors.New(s) }"
    ∷ []
    )

-- the package `sync`
unfoldable pub sync_text : List ℕ
sync_text =
    lines (
    codes "package sync"
    ∷ codes "type Mutex struct{ n int32 }"
    ∷ codes "func (m *Mutex) Lock() {}"
    ∷ codes "func (m *Mutex) Unlock() {}"
    ∷ codes "type WaitGroup struct{ n int32 }"
    ∷ codes "func (w *WaitGroup) Add(n int) {}"
    ∷ codes "func (w *WaitGroup) Done() {}"
    ∷ codes "func (w *WaitGroup) Wait() {}"
    ∷ codes "type Once struct{ n int32 }"
    ∷ codes "func (o *Once) Do(f func()) { f() }"
    ∷ []
    )
