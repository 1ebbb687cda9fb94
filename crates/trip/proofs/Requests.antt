-- From the lines to the file, where nothing follows: the text of a request without refusal reads back, and a text that reads well gives
-- a request without refusal and is its text.
use Rattle.std.specs.Prelude.{ℕ, ◌≡◌, List, [], ◌∷◌}
use Rattle.std.proofs.Common.{sym, ap, ◌∙◌, append-nil}
use Rattle.scope.specs.Call.Result.{result}
use Rattle.scope.specs.File.Request.{Request}
use Rattle.scope.specs.File.Line.{Read, ok, bad}
use Rattle.scope.specs.File.Text.{request_text}
use Rattle.scope.specs.File.Reader.{request_lines, ended, read_request}
use Rattle.scope.specs.Tools.Tests.{never}
use Rattle.trip.specs.File.{Unrefused, request_reads}

pub text_reads : (q : Request) → Unrefused q → read_request (request_text q) ≡ result q
unfolding read_request
text_reads q g =
    ap (λ s. ended (request_lines s)) (sym (append-nil (request_text q))) ∙ ap ended (request_reads.there q [] g)

whole : (x : Read Request) (q : Request) → ended x ≡ result q → x ≡ ok q []
unfolding ended
whole (ok p []) q e = cc
whole (ok p (b ∷ rest)) q e = never cc
whole (bad a) q e = never cc

pub read_unrefused : (s : List ℕ) (q : Request) → read_request s ≡ result q → Unrefused q
unfolding read_request
read_unrefused s q e = request_reads.good s q [] (whole (request_lines s) q e)

pub read_text : (s : List ℕ) (q : Request) → read_request s ≡ result q → s ≡ request_text q
unfolding read_request
read_text s q e = request_reads.back s q [] (whole (request_lines s) q e) ∙ append-nil (request_text q)

pub same_request : (q r : Request) → Unrefused q → Unrefused r → request_text q ≡ request_text r → q ≡ r
same_request q r g h e =
    let same : result q ≡ result r = sym (text_reads q g) ∙ ap read_request e ∙ text_reads r h in
    cc
