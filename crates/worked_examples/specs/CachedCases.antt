-- Cached readers, in one session and in two.
use Rattle.std.specs.Prelude.{◌≡◌, [], ◌∷◌, Some, codes}
use Rattle.session_model.specs.Transcript.{done}
use Rattle.worked_examples.specs.Files.{lines, file_replayed}

abbrev pub SharedKey : Type 0
SharedKey =
    file_replayed
    (lines (codes "input a = 1;" ∷
    codes "reactive e cache (input$a) { input$a * 10 }" ∷
    codes "text o { e() }" ∷ []))
    (lines (codes "x recv {\"method\":\"init\",\"data\":{\"a\":1,\".clientdata_output_o_hidden\":false}}" ∷
    codes "y recv {\"method\":\"init\",\"data\":{\"a\":2,\".clientdata_output_o_hidden\":false}}" ∷
    codes "x recv {\"method\":\"update\",\"data\":{\"a\":2}}" ∷
    codes "y recv {\"method\":\"update\",\"data\":{\"a\":1}}" ∷ []))
    ≡ Some (record {
      output = lines (codes "x send {\"config\":{\"sessionId\":\"x\",\"user\":null,\"workerId\":\"\"}}" ∷
          codes "x send {\"busy\":\"busy\"}" ∷
          codes "x send {\"progress\":{\"message\":{\"id\":\"o\"},\"type\":\"binding\"}}" ∷
          codes "x send {\"recalculating\":{\"name\":\"o\",\"status\":\"recalculating\"}}" ∷
          codes "x send {\"recalculating\":{\"name\":\"o\",\"status\":\"recalculated\"}}" ∷
          codes "x send {\"errors\":{},\"inputMessages\":[],\"values\":{\"o\":\"10\"}}" ∷
          codes "x send {\"busy\":\"idle\"}" ∷
          codes "y send {\"config\":{\"sessionId\":\"y\",\"user\":null,\"workerId\":\"\"}}" ∷
          codes "y send {\"busy\":\"busy\"}" ∷
          codes "y send {\"progress\":{\"message\":{\"id\":\"o\"},\"type\":\"binding\"}}" ∷
          codes "y send {\"recalculating\":{\"name\":\"o\",\"status\":\"recalculating\"}}" ∷
          codes "y send {\"recalculating\":{\"name\":\"o\",\"status\":\"recalculated\"}}" ∷
          codes "y send {\"errors\":{},\"inputMessages\":[],\"values\":{\"o\":\"20\"}}" ∷
          codes "y send {\"busy\":\"idle\"}" ∷
          codes "x send {\"busy\":\"busy\"}" ∷
          codes "x send {\"progress\":{\"message\":{\"id\":\"o\"},\"type\":\"binding\"}}" ∷
          codes "x send {\"recalculating\":{\"name\":\"o\",\"status\":\"recalculating\"}}" ∷
          codes "x send {\"recalculating\":{\"name\":\"o\",\"status\":\"recalculated\"}}" ∷
          codes "x send {\"errors\":{},\"inputMessages\":[],\"values\":{\"o\":\"20\"}}" ∷
          codes "x send {\"busy\":\"idle\"}" ∷
          codes "y send {\"busy\":\"busy\"}" ∷
          codes "y send {\"progress\":{\"message\":{\"id\":\"o\"},\"type\":\"binding\"}}" ∷
          codes "y send {\"recalculating\":{\"name\":\"o\",\"status\":\"recalculating\"}}" ∷
          codes "y send {\"recalculating\":{\"name\":\"o\",\"status\":\"recalculated\"}}" ∷
          codes "y send {\"errors\":{},\"inputMessages\":[],\"values\":{\"o\":\"10\"}}" ∷
          codes "y send {\"busy\":\"idle\"}" ∷
          codes "x over ended" ∷
          codes "y over ended" ∷ []);
      end = done;
    })

abbrev pub SharedFailure : Type 0
SharedFailure =
    file_replayed
    (lines (codes "input d = 0;" ∷
    codes "reactive e cache (input$d) { 1 %/% input$d }" ∷
    codes "text o { e() }" ∷ []))
    (lines (codes "x recv {\"method\":\"init\",\"data\":{\".clientdata_output_o_hidden\":false}}" ∷
    codes "y recv {\"method\":\"init\",\"data\":{\".clientdata_output_o_hidden\":false}}" ∷ []))
    ≡ Some (record {
      output = lines (codes "x send {\"config\":{\"sessionId\":\"x\",\"user\":null,\"workerId\":\"\"}}" ∷
          codes "x send {\"busy\":\"busy\"}" ∷
          codes "x send {\"progress\":{\"message\":{\"id\":\"o\"},\"type\":\"binding\"}}" ∷
          codes "x send {\"recalculating\":{\"name\":\"o\",\"status\":\"recalculating\"}}" ∷
          codes "x send {\"recalculating\":{\"name\":\"o\",\"status\":\"recalculated\"}}" ∷
          codes "x send {\"errors\":{\"o\":{\"message\":\"division by zero\"}},\"inputMessages\":[],\"values\":{}}" ∷
          codes "x send {\"busy\":\"idle\"}" ∷
          codes "y send {\"config\":{\"sessionId\":\"y\",\"user\":null,\"workerId\":\"\"}}" ∷
          codes "y send {\"busy\":\"busy\"}" ∷
          codes "y send {\"progress\":{\"message\":{\"id\":\"o\"},\"type\":\"binding\"}}" ∷
          codes "y send {\"recalculating\":{\"name\":\"o\",\"status\":\"recalculating\"}}" ∷
          codes "y send {\"recalculating\":{\"name\":\"o\",\"status\":\"recalculated\"}}" ∷
          codes "y send {\"errors\":{\"o\":{\"message\":\"division by zero\"}},\"inputMessages\":[],\"values\":{}}" ∷
          codes "y send {\"busy\":\"idle\"}" ∷
          codes "x over ended" ∷
          codes "y over ended" ∷ []);
      end = done;
    })

abbrev pub SecondKeyThatFails : Type 0
SecondKeyThatFails =
    file_replayed
    (lines (codes "input a = 1;" ∷
    codes "input d = 0;" ∷
    codes "text o cache (input$a, 10 %/% input$d) { input$a + 1 }" ∷ []))
    (lines (codes "s recv {\"method\":\"init\",\"data\":{\".clientdata_output_o_hidden\":false}}" ∷
    codes "s recv {\"method\":\"update\",\"data\":{\"a\":2}}" ∷
    codes "s recv {\"method\":\"update\",\"data\":{\"d\":5}}" ∷
    codes "s recv {\"method\":\"update\",\"data\":{\"d\":0}}" ∷ []))
    ≡ Some (record {
      output = lines (codes "s send {\"config\":{\"sessionId\":\"s\",\"user\":null,\"workerId\":\"\"}}" ∷
          codes "s send {\"busy\":\"busy\"}" ∷
          codes "s send {\"progress\":{\"message\":{\"id\":\"o\"},\"type\":\"binding\"}}" ∷
          codes "s send {\"recalculating\":{\"name\":\"o\",\"status\":\"recalculating\"}}" ∷
          codes "s send {\"recalculating\":{\"name\":\"o\",\"status\":\"recalculated\"}}" ∷
          codes "s send {\"errors\":{\"o\":{\"message\":\"division by zero\"}},\"inputMessages\":[],\"values\":{}}" ∷
          codes "s send {\"busy\":\"idle\"}" ∷
          codes "s send {\"busy\":\"busy\"}" ∷
          codes "s send {\"progress\":{\"message\":{\"id\":\"o\"},\"type\":\"binding\"}}" ∷
          codes "s send {\"recalculating\":{\"name\":\"o\",\"status\":\"recalculating\"}}" ∷
          codes "s send {\"recalculating\":{\"name\":\"o\",\"status\":\"recalculated\"}}" ∷
          codes "s send {\"errors\":{\"o\":{\"message\":\"division by zero\"}},\"inputMessages\":[],\"values\":{}}" ∷
          codes "s send {\"busy\":\"idle\"}" ∷
          codes "s send {\"busy\":\"busy\"}" ∷
          codes "s send {\"progress\":{\"message\":{\"id\":\"o\"},\"type\":\"binding\"}}" ∷
          codes "s send {\"recalculating\":{\"name\":\"o\",\"status\":\"recalculating\"}}" ∷
          codes "s send {\"recalculating\":{\"name\":\"o\",\"status\":\"recalculated\"}}" ∷
          codes "s send {\"errors\":{},\"inputMessages\":[],\"values\":{\"o\":\"3\"}}" ∷
          codes "s send {\"busy\":\"idle\"}" ∷
          codes "s send {\"busy\":\"busy\"}" ∷
          codes "s send {\"progress\":{\"message\":{\"id\":\"o\"},\"type\":\"binding\"}}" ∷
          codes "s send {\"recalculating\":{\"name\":\"o\",\"status\":\"recalculating\"}}" ∷
          codes "s send {\"recalculating\":{\"name\":\"o\",\"status\":\"recalculated\"}}" ∷
          codes "s send {\"errors\":{\"o\":{\"message\":\"division by zero\"}},\"inputMessages\":[],\"values\":{}}" ∷
          codes "s send {\"busy\":\"idle\"}" ∷
          codes "s over ended" ∷ []);
      end = done;
    })
