-- A request as data.
use Rattle.ql_app.specs.declared.words.Request.{Request}
use Rattle.ql_app.specs.declared.words.Request.TheVariants as request
use Rattle.ql_app.specs.Words.{NamedRequest, OneFile, TwoFiles}

abbrev pub named_request_of : Request → NamedRequest
named_request_of (request.OneFile command name) = OneFile command name.now
named_request_of (request.TwoFiles command name other) = TwoFiles command name.now other.now
